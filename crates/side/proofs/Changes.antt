-- Laws of the call that tells what a move changes: its answer is one; it is a change exactly where the book reads, the side fits and the module is free, and
-- then the difference of two prices; it refuses exactly when document 01 says; and what lies beyond the needed bytes is not read. Assumes nothing.
use Rattle.std.specs.Prelude.{Result, Ok, Err, ⊤}
use Rattle.book.specs.declared.Book.{Book}
use Prim.Native.Nat.{ℕ}
use mathlib.Core.Path.{◌≡◌, refl, sym, ap, ap₂, subst, ◌∙◌}
use mathlib.Core.Bool.{Bool, true, false, true≢false, and-eq-true_iff}
use mathlib.Core.List.{List}
use native.Mathlib.Omega.{arith}
use lib.Dec.{ltb, eqb}
use lib.IntN.{ℤ, pos, ◌-ℤ◌}
use lib.ListN.{take}
use borrow.Author.Tests.{lt-ltb, eq-eqb, eqb-true, ltb-true}
use Rattle.book.specs.declared.Refusal.{Refusal}
use Rattle.book.specs.declared.Refusal.TheVariants.{Move}
use Rattle.book.specs.Format.{modules, mark}
use Rattle.book.specs.Checks.{read_of}
use Rattle.book.specs.Answer.{number_of}
use Rattle.book.proofs.Sound.{sound}
use Rattle.side.specs.Sides.{side_of, bytes_for, Bytes}
use Rattle.side.specs.Given.{Fits, Reads}
use Rattle.side.specs.Given as page
use Rattle.side.specs.Moves.{Free, RefusesMove, side, fixed, flipped, is_free, change_of, change_if, changed_good, change_after, changed}
use Rattle.side.proofs.Refusals.{to_nine, given_tells, given_passes, given_refuses, refuses_given}
use Rattle.side.proofs.Unread.{one_side, one_given}
use Rattle.side.proofs.Alike.{alike_price, alike_flipped}

-- any two answers that `change`'s contract allows are one
pub change_one : (s l : List ℕ) (m : ℕ) (r q : Result ℤ Refusal) → r ≡ changed s l m → q ≡ changed s l m → r ≡ q
change_one s l m r q h k = h ∙ sym k

module _ (s : List ℕ) (m : ℕ) where
  -- ---- check 10 as a test, and what it tests

  pub free_tells : is_free s m ≡ true → Free s m
  unfolding is_free
  free_tells e = let p = (and-eq-true_iff (ltb m (modules s)) (eqb (mark s m) 0)).0 e in (ltb-true _ _ p.0, eqb-true _ _ p.1)

  free_passes : Free s m → is_free s m ≡ true
  unfolding is_free
  free_passes f = rw (lt-ltb m (modules s) f.0, eq-eqb (mark s m) 0 f.1)

module _ (s l : List ℕ) (m : ℕ) where
  pub record Changed (z : ℤ) : Type 0 where
    pub reads : Reads s
    pub fits : Fits s l
    pub free : Free s m
    pub is : z ≡ change_of s (side_of l) m

  answer : (z : ℤ) (g : Result ⊤ Refusal) (b : Bool) → page.given s l ≡ g → is_free s m ≡ b → change_after g (change_if b (change_of s (side_of l) m)) ≡ Ok z → Changed z
  answer z (Ok tt) true e f h =
      let t = given_tells s l e in
      let q : change_of s (side_of l) m ≡ z = cc in
      record { reads = t.0; fits = t.1; free = free_tells s m f; is = sym q }
  answer z (Ok tt) false e f h = let a : ◌≡◌ {A = ℕ} 0 1 = cc in absurd (omega arith)
  answer z (Err why) b e f h = let a : ◌≡◌ {A = ℕ} 0 1 = cc in absurd (omega arith)

  pub change_tells : (z : ℤ) → changed s l m ≡ Ok z → Changed z
  unfolding changed changed_good
  change_tells z e = answer z (page.given s l) (is_free s m) refl refl e

  module _ (h : Bytes l) where
    pub change_answers : Reads s → Fits s l → Free s m → changed s l m ≡ Ok (change_of s (side_of l) m)
    unfolding changed changed_good
    change_answers r f i = rw (given_passes s l h r f, free_passes s m i)

    why : (w : Refusal) (g : Result ⊤ Refusal) (b : Bool) → page.given s l ≡ g → is_free s m ≡ b → change_after g (change_if b (change_of s (side_of l) m)) ≡ Err w → RefusesMove s l m w
    why w (Ok tt) true e f k = let a : ◌≡◌ {A = ℕ} 0 1 = cc in absurd (omega arith)
    why w (Ok tt) false e f k =
        let t = given_tells s l e in
        let u : Move ≡ w = cc in
        subst (RefusesMove s l m) u (fixed t.0 t.1 (λ i. true≢false (sym (free_passes s m i) ∙ f)))
    why w (Err v) b e f k = let u : v ≡ w = cc in side (given_refuses s l h w (e ∙ ap Err u))

    pub change_refuses : (w : Refusal) → changed s l m ≡ Err w → RefusesMove s l m w
    unfolding changed changed_good
    change_refuses w e = why w (page.given s l) (is_free s m) refl refl e

    is_fixed : (b : Bool) → is_free s m ≡ b → (Free s m → ⊥) → is_free s m ≡ false
    is_fixed true e f = absurd (f (free_tells s m e))
    is_fixed false e f = e

    pub refuses_change : {w : Refusal} → RefusesMove s l m w → changed s l m ≡ Err w
    unfolding changed changed_good
    refuses_change (side r) = rw (refuses_given s l h r)
    refuses_change (fixed r f n) = rw (given_passes s l h r f, is_fixed (is_free s m) refl n)

  -- refusal 10
  pub ten : {w : Refusal} → RefusesMove s l m w → number_of w ≡ 10 → Reads s × Fits s l × (Free s m → ⊥)
  ten (side r) h = absurd (omega (arith, to_nine s l r))
  ten (fixed r f n) h = (r, f, n)

-- two sides that agree on the needed bytes get one answer
pub change_unread : (s l k : List ℕ) (m : ℕ) → take (bytes_for (modules s)) l ≡ take (bytes_for (modules s)) k → changed s l m ≡ changed s k m
unfolding changed changed_good page.given
change_unread s l k m e = go (read_of s) refl
  where
    go : (r : Result Book Refusal) → read_of s ≡ r →
        change_after (page.after_read (read_of s) (page.given_sound s l)) (change_if (is_free s m) (change_of s (side_of l) m)) ≡
        change_after (page.after_read (read_of s) (page.given_sound s k)) (change_if (is_free s m) (change_of s (side_of k) m))
    go (Ok b) h =
        let a = one_side s l k e in
        let before = alike_price s (side_of l) (side_of k) a (sound s b h) in
        let after = alike_price s (flipped (side_of l) m) (flipped (side_of k) m) (alike_flipped s (side_of l) (side_of k) a m) (sound s b h) in
        ap₂ change_after (one_given s l k e) (ap (change_if (is_free s m)) (ap₂ (λ (p q : ℕ). pos p -ℤ pos q) after before))
    go (Err w) h = rw h
