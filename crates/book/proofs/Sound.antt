-- A book that reads is sound.
-- Assumes nothing.
use Rattle.std.specs.Prelude.{Option, Some, None, Result, Ok}
use Prim.Native.Nat.{ℕ, suc, ◌+◌, ◌-◌, ◌<◌}
use mathlib.Core.Path.{◌≡◌, refl, sym, ◌∙◌}
use mathlib.Core.Bool.{true, false, not, ◌&&◌, ◌||◌, true≢false}
use mathlib.Core.List.{List}
use lib.Dec.{leb, ltb, eqb}
use borrow.Author.Tests.{lt-ltb, leb-true, leb-false, ltb-false, eqb-true, eqb-false, not-false}
use native.Mathlib.Omega.{arith}
use Rattle.book.specs.declared.Book.{Book}
use Rattle.book.specs.declared.Refusal.{Refusal}
use Rattle.book.specs.declared.Refusal.TheVariants.{Layout, Counts, Module, Net, Pin, Marks}
use Rattle.book.specs.First.{from, is_nothing}
use Rattle.book.specs.Format.{laid, modules, nets, pins, area, mark, weight, pin_count, pin, first_pin}
use Rattle.book.specs.Checks.{most_nets, most_modules, most_pins, least_modules, counted, check1, check2, check3, check4, check5, check6, lacks, refuse, book_of, rest_of, read_of}
use Rattle.book.specs.Checks.{bad_module, bad_net, bad_pin, bad_pin_of, bad_pins}
use Rattle.book.specs.Sound.{Sound}
use Rattle.book.proofs.Firsts.{passed, both_nothing, lowest_clear, lowest_at, first_nothing}
use Rattle.book.proofs.Laid.{laid_facts, sum_right}
use Rattle.line.proofs.Bools.{or_none, and_four}

-- an answer that is no refusal
accepted : (f : Option ℕ) (why : ℕ → Refusal) (r : Result Book Refusal) (b : Book) → refuse f why r ≡ Ok b → (f ≡ None) × (r ≡ Ok b)
accepted (Some i) why r b e = let z : ◌≡◌ {A = ℕ} 0 1 = cc in absurd (omega arith)
accepted None why r b e = (refl, e)

unshifted : (k : ℕ) (f : Option ℕ) → from k f ≡ None → f ≡ None
unshifted k (Some i) e = let z : ◌≡◌ {A = ℕ} 0 1 = cc in absurd (omega arith)
unshifted k None e = refl

-- where a mark is not lacking, a module has it
found : (f : Option ℕ) → is_nothing f ≡ false → (i : ℕ) × (f ≡ Some i)
found (Some i) e = (i, refl)
found None e = absurd (true≢false e)

pub has : (s : List ℕ) (k : ℕ) → lacks s k ≡ false → (m : ℕ) × (m < modules s) × (mark s m ≡ k)
unfolding lacks
has s k e =
    let f = found _ e in
    let h = lowest_at (λ m. eqb (mark s m) k) (modules s) f.0 f.1 in
    (f.0, h.0, eqb-true _ _ h.1)

module _ (s : List ℕ) (b : Book) (e : read_of s ≡ Ok b) where
  rest : (laid s ≡ true) × (rest_of s ≡ Ok b)
  unfolding read_of
  rest = let a = accepted (check1 s) (λ _. Layout) _ b e in (not-false _ (passed _ 0 a.0), a.1)

  pub record Passed : Type 0 where
    pub two : counted s ≡ true
    pub three : check3 s ≡ None
    pub four : check4 s ≡ None
    pub five : check5 s ≡ None
    pub six : (lacks s 1 || lacks s 2) ≡ false
    pub counts : ◌≡◌ {A = Result Book Refusal} (Ok (book_of s)) (Ok b)

  pub passed_all : Passed
  unfolding rest_of
  passed_all =
      let a = accepted (check2 s) (λ _. Counts) _ b rest.1 in
      let b2 = accepted (check3 s) Module _ b a.1 in
      let c = accepted (check4 s) Net _ b b2.1 in
      let d = accepted (check5 s) Pin _ b c.1 in
      let f = accepted (check6 s) (λ _. Marks) _ b d.1 in
      record {
        two = not-false _ (passed (not (counted s)) 0 a.0);
        three = b2.0;
        four = c.0;
        five = d.0;
        six = passed (lacks s 1 || lacks s 2) 0 f.0;
        counts = f.1;
      }

some : (a : ℕ) → eqb a 0 ≡ false → 0 < a
some a h = let z : a ≡ 0 → ⊥ = eqb-false a 0 h in omega arith

rises : (f j : ℕ) (g : ℕ → ℕ) → (ltb 0 (suc j) && leb (g (f + suc j)) (g (f + suc j - 1))) ≡ false → g (f + j) < g (f + suc j)
rises f j g h =
    let e : f + suc j - 1 ≡ f + j = omega arith in
    let t : leb (g (f + suc j)) (g (f + suc j - 1)) ≡ false = rw (lt-ltb 0 (suc j) (omega arith)) at h in
    rw (← e) (leb-false _ _ t)

module _ (s : List ℕ) (b : Book) (e : read_of s ≡ Ok b) where
  all : Passed s b e
  all = passed_all s b e

  nets_good : (k : ℕ) → k < nets s → bad_net s k ≡ false
  unfolding check4
  nets_good k l = lowest_clear (bad_net s) (nets s) k (both_nothing _ _ all.four).0 l

  pin_good : (k j : ℕ) → k < nets s → j < pin_count s k → bad_pin_of s k j ≡ false
  unfolding check5
  pin_good k j l h =
      lowest_clear (bad_pin_of s k) (pin_count s k) j (unshifted (first_pin s k) _ (first_nothing (bad_pins s) (nets s) k all.five l)) h

  -- a book that reads is sound
  pub sound : Sound s
  unfolding counted check3 bad_module bad_net bad_pin
  sound =
      let c = and_four (leb least_modules (modules s)) (leb (modules s) most_modules) (leb (nets s) most_nets) (leb (pins s) most_pins) all.two in
      let mods = lowest_clear (bad_module s) (modules s) in
      let six = or_none _ _ all.six in
      record {
        laid_out = laid_facts s (rest s b e).0;
        some_modules = leb-true _ _ c.0;
        few_modules = leb-true _ _ c.1;
        few_nets = leb-true _ _ c.2;
        few_pins = leb-true _ _ c.3;
        area_some = λ k l. some _ (or_none _ _ (mods k all.three l)).0;
        mark_low = λ k l. ltb-false _ _ (or_none (eqb (area s k) 0) _ (mods k all.three l)).1;
        weight_some = λ k l. some _ (or_none _ _ (nets_good k l)).0;
        pins_some = λ k l. some _ (or_none (eqb (weight s k) 0) _ (nets_good k l)).1;
        pins_all = sum_right s all.four;
        pin_module = λ k j l h. leb-false _ _ (or_none _ _ (pin_good k j l h)).0;
        pin_rises = λ k j l h. rises (first_pin s k) j (pin s) (or_none (leb (modules s) (pin s (first_pin s k + suc j))) _ (pin_good k (suc j) l h)).1;
        meter = has s 1 six.0;
        maker = has s 2 six.1;
      }

  -- and its counts are those of the answer
  pub counts_are : book_of s ≡ b
  counts_are = let h = all.counts in cc

-- any two answers that `read`'s contract allows are one
pub one_answer : (s : List ℕ) (r q : Result Book Refusal) → r ≡ read_of s → q ≡ read_of s → r ≡ q
one_answer s r q h k = h ∙ sym k
