-- What lies beyond the needed part of a flow or a side is not read: flows that agree on it pass the same checks with the same sums, and the call has one answer.
-- Assumes nothing.
use Rattle.audit.specs.declared.Value.{Value}
use Rattle.std.specs.Prelude.{Result, Ok, Err, ⊤}
use Rattle.book.specs.declared.Book.{Book}
use Rattle.book.specs.declared.Refusal.{Refusal}
use Prim.Native.Nat.{ℕ, ◌+◌, ◌<◌}
use mathlib.Core.Path.{◌≡◌, refl, sym, ap, ap₂, ◌∙◌}
use mathlib.Core.Bool.{Bool, true, false, not, cond, ◌&&◌, ◌||◌}
use mathlib.Core.List.{List}
use native.Mathlib.Nat.{le_refl}
use native.Mathlib.Omega.{arith}
use lib.Dec.{leb, ltb, eqb}
use lib.IntN.{ℤ, pos}
use lib.ListN.{length, take, get_or}
use borrow.Author.Tests.{leb-true, leb-false, le-ltb}
use lib.Seq.{get_or-take, take-take, take_all, length-take-le}
use Rattle.line.specs.Card.{Side}
use Rattle.line.specs.Flow.{sent, taken, only, meters}
use Rattle.book.specs.Format.{modules, nets, pins, mark, weight, pin_count, pin, first_pin}
use Rattle.book.specs.Sound.{Sound}
use Rattle.book.specs.Cards.{card_of}
use Rattle.book.proofs.Firsts.{lowest_same}
use Rattle.book.proofs.CardLaws.{pin_before}
use Rattle.book.specs.declared.Refusal.TheVariants.{Buffer}
use Rattle.book.specs.Checks.{read_of}
use Rattle.book.proofs.Sound.{sound}
use Rattle.side.specs.Sides.{bytes_for}
use Rattle.side.specs.Given.{Reads, is_short, is_good, given_sound, given}
use Rattle.side.specs.Prices.{priced}
use Rattle.side.proofs.Prices.{price_unread}
use Rattle.audit.specs.Checker.{judged, checked_good, is_short_flow, refuse_if, checked_sound, after_read, checked_of}
use Rattle.audit.specs.Rules.{sum_to, needed, bad_net_flow, check11, bad_module_flow, check12, balance_of, ruled_of}
use Rattle.audit.proofs.Totals.{sum_same}

-- the needed part of it is the whole needed part
pub needed_needed : (s : List ℕ) (xs : List ℤ) → needed s (needed s xs) ≡ needed s xs
needed_needed s xs = take-take (pins s) (pins s) xs (le_refl _)

module _ (s : List ℕ) (h : Sound s) (xs ys : List ℤ) (e : needed s xs ≡ needed s ys) where
  one_number : (p : ℕ) → p < pins s → get_or xs p (pos 0) ≡ get_or ys p (pos 0)
  one_number p l = sym (get_or-take (pins s) xs p (pos 0) l) ∙ ap (λ (zs : List ℤ). get_or zs p (pos 0)) e ∙ get_or-take (pins s) ys p (pos 0) l

  module _ (f : ℤ → ℕ) where
    one_net : (n : ℕ) → n < nets s → sum_to (λ j. f (get_or xs (first_pin s n + j) (pos 0))) (pin_count s n) ≡ sum_to (λ j. f (get_or ys (first_pin s n + j) (pos 0))) (pin_count s n)
    one_net n u =
        sum_same (λ j. f (get_or xs (first_pin s n + j) (pos 0))) (λ j. f (get_or ys (first_pin s n + j) (pos 0))) (pin_count s n)
        (λ j l. ap f (one_number (first_pin s n + j) (omega (arith, pin_before s n (nets s) j u l, h.pins_all))))

    one-sum : (x : Side) → sum_to (λ p. cond (x (pin s p)) (f (get_or xs p (pos 0))) 0) (pins s) ≡ sum_to (λ p. cond (x (pin s p)) (f (get_or ys p (pos 0))) 0) (pins s)
    one-sum x =
        sum_same (λ p. cond (x (pin s p)) (f (get_or xs p (pos 0))) 0) (λ p. cond (x (pin s p)) (f (get_or ys p (pos 0))) 0) (pins s)
        (λ p l. ap (λ (z : ℤ). cond (x (pin s p)) (f z) 0) (one_number p l))

  pub one_check11 : check11 s xs ≡ check11 s ys
  unfolding check11 bad_net_flow
  one_check11 =
      lowest_same (bad_net_flow s xs) (bad_net_flow s ys) (nets s)
      (λ n u. ap₂ (λ (a b : ℕ). not (eqb a b) || ltb (weight s n) a) (one_net sent n u) (one_net taken n u))

  pub one_check12 : check12 s xs ≡ check12 s ys
  unfolding check12 bad_module_flow
  one_check12 =
      lowest_same (bad_module_flow s xs) (bad_module_flow s ys) (modules s)
      (λ m u. ap₂ (λ (a b : ℕ). eqb (mark s m) 0 && not (eqb a b)) (one-sum sent (only m)) (one-sum taken (only m)))

  pub one_ruled : ruled_of s xs ≡ ruled_of s ys
  unfolding ruled_of balance_of
  one_ruled = rw (one_check11, one_check12, one-sum sent (meters (card_of s)), one-sum taken (meters (card_of s)))

-- ---- the call

-- a list is as short as its first n elements are
short_take : (n : ℕ) (xs : List ℤ) → ltb (length xs) n ≡ ltb (length (take n xs)) n
short_take n xs = go (leb n (length xs)) refl
  where
    go : (b : Bool) → leb n (length xs) ≡ b → ltb (length xs) n ≡ ltb (length (take n xs)) n
    go true e =
        let h = leb-true n (length xs) e in
        le-ltb (length xs) n h ∙ sym (le-ltb (length (take n xs)) n (omega (arith, length-take-le n xs h)))
    go false e = let h = leb-false n (length xs) e in ap (λ (zs : List ℤ). ltb (length zs) n) (sym (take_all n xs (omega arith)))

same_short : (s : List ℕ) (xs ys : List ℤ) → needed s xs ≡ needed s ys → is_short_flow s xs ≡ is_short_flow s ys
unfolding is_short_flow
same_short s xs ys d = short_take (pins s) xs ∙ ap (λ (zs : List ℤ). ltb (length zs) (pins s)) d ∙ sym (short_take (pins s) ys)

-- what the price call answers of the side, or the rest
abbrev after_price : Result ℕ Refusal → Result Value Refusal → ℕ → Result ⊤ Refusal
after_price (Ok p) r claim = judged r p claim
after_price (Err why) r claim = Err why

module _ (s l : List ℕ) (r : Reads s) (xs : List ℤ) (claim : ℕ) where
  by_price : checked_sound s l xs claim ≡ refuse_if (is_short_flow s xs) Buffer (after_price (priced s l) (ruled_of s xs) claim)
  unfolding checked_sound checked_good priced given given_sound
  by_price = go (is_short_flow s xs) (is_short s l) (is_good s l) refl refl refl
    where
      go : (a b g : Bool) → is_short_flow s xs ≡ a → is_short s l ≡ b → is_good s l ≡ g →
          checked_sound s l xs claim ≡ refuse_if (is_short_flow s xs) Buffer (after_price (priced s l) (ruled_of s xs) claim)
      go true b g u v w = rw u
      go false true g u v w = rw (r.1, u, v)
      go false false true u v w = rw (r.1, u, v, w)
      go false false false u v w = rw (r.1, u, v, w)

-- sides that agree on the needed bytes, and flows on the needed numbers, get one answer
pub check_unread : (s l k : List ℕ) (xs ys : List ℤ) (claim : ℕ) → take (bytes_for (modules s)) l ≡ take (bytes_for (modules s)) k → needed s xs ≡ needed s ys →
    checked_of s l xs claim ≡ checked_of s k ys claim
unfolding checked_of
check_unread s l k xs ys claim e d = go (read_of s) refl
  where
    go : (r : Result Book Refusal) → read_of s ≡ r → after_read (read_of s) (checked_sound s l xs claim) ≡ after_read (read_of s) (checked_sound s k ys claim)
    go (Ok b) h =
        let same : refuse_if (is_short_flow s xs) Buffer (after_price (priced s l) (ruled_of s xs) claim) ≡ refuse_if (is_short_flow s ys) Buffer (after_price (priced s k) (ruled_of s ys) claim) =
        rw (same_short s xs ys d, price_unread s l k e, one_ruled s (sound s b h) xs ys d) in
        ap (after_read (read_of s)) (by_price s l (b, h) xs claim ∙ same ∙ sym (by_price s k (b, h) ys claim))
    go (Err why) h = rw h
