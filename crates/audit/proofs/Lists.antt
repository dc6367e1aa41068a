-- A book's sums by number are the card's sums along its lists: over the numbers of a net, and over the pins of a side. f is `sent` or `taken`. Assumes nothing.
use Prim.Native.Nat.{ℕ, zero, suc, ◌+◌}
use mathlib.Core.Path.{◌≡◌, refl, sym, ap, ◌∙◌}
use mathlib.Core.Bool.{Bool, true, false, cond}
use mathlib.Core.List.{List, [], ◌∷◌}
use native.Mathlib.Omega.{arith}
use lib.IntN.{ℤ, pos}
use lib.ListN.{take, drop, get_or}
use lib.Seq.{get_or-drop}
use Rattle.line.specs.Card.{Side, all_pins}
use Rattle.line.proofs.Sums.{sum, sum_at}
use Rattle.book.specs.Listed.{listed}
use Rattle.book.specs.Format.{pins, pin}
use Rattle.book.specs.Sound.{Sound}
use Rattle.book.specs.Cards.{nets_of}
use Rattle.book.proofs.CardLaws.{all-pins}
use Rattle.audit.specs.Rules.{sum_to}
use Rattle.audit.proofs.Totals.{sum_same, sum_zeros, sum_first}

module _ (f : ℤ → ℕ) (none : f (pos 0) ≡ 0) where
  -- the first n of a list
  sum_taken : (xs : List ℤ) (n : ℕ) → sum_to (λ i. f (get_or xs i (pos 0))) n ≡ sum f (take n xs)
  unfolding sum_to sum
  sum_taken xs zero = refl
  sum_taken [] (suc n) = sum_zeros (λ i. f (get_or [] i (pos 0))) (suc n) (λ i l. none)
  sum_taken (x ∷ xs) (suc n) = omega (arith, sum_first (λ i. f (get_or (x ∷ xs) i (pos 0))) n, sum_taken xs n)

  -- n of them, after k
  pub net_sum : (xs : List ℤ) (k n : ℕ) → sum_to (λ j. f (get_or xs (k + j) (pos 0))) n ≡ sum f (take n (drop k xs))
  net_sum xs k n =
      sum_same (λ j. f (get_or xs (k + j) (pos 0))) (λ j. f (get_or (drop k xs) j (pos 0))) n (λ j h. ap f (sym (get_or-drop k xs j (pos 0)))) ∙ sum_taken (drop k xs) n

  -- the pins q 0, q 1, .. on a side
  nothing : (b : Bool) → cond b (f (pos 0)) 0 ≡ 0
  nothing true = none
  nothing false = refl

  sum_listed : (x : Side) (q : ℕ → ℕ) (xs : List ℤ) (n : ℕ) → sum_to (λ p. cond (x (q p)) (f (get_or xs p (pos 0))) 0) n ≡ sum_at f x (listed q n) xs
  unfolding sum_to sum_at listed
  sum_listed x q xs zero = refl
  sum_listed x q [] (suc n) = sum_zeros (λ p. cond (x (q p)) (f (get_or [] p (pos 0))) 0) (suc n) (λ p l. nothing (x (q p)))
  sum_listed x q (z ∷ xs) (suc n) =
      omega (arith, sum_first (λ p. cond (x (q p)) (f (get_or (z ∷ xs) p (pos 0))) 0) n, sum_listed x (λ p. q (suc p)) xs n)

  pub side_sum : (s : List ℕ) → Sound s → (xs : List ℤ) (x : Side) →
      sum_to (λ p. cond (x (pin s p)) (f (get_or xs p (pos 0))) 0) (pins s) ≡ sum_at f x (all_pins (nets_of s)) xs
  side_sum s h xs x =
      let all : all_pins (nets_of s) ≡ listed (pin s) (pins s) = all-pins s ∙ ap (listed (pin s)) h.pins_all in
      sum_listed x (pin s) xs (pins s) ∙ ap (λ (ps : List ℕ). sum_at f x ps xs) (sym all)
