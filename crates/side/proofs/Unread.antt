-- What lies beyond the needed bytes of a side is not read: two sides that agree on the needed bytes pass the same checks and are one side of the card.
-- Assumes nothing.
use Prim.Native.Nat.{ℕ, ◌/◌, ◌%◌, ◌^◌, ◌<◌}
use mathlib.Core.Path.{◌≡◌, refl, sym, ap, ◌∙◌}
use mathlib.Core.Bool.{Bool, true, false, not, ◌&&◌, ◌||◌}
use mathlib.Core.List.{List}
use native.Mathlib.Decide.{ℕ_discrete}
use native.Mathlib.Omega.{arith}
use lib.Dec.{eqb, ltb, leb}
use lib.ListN.{length, get_or, take}
use lib.Seq.{length-take-le, take_all, get_or-take}
use borrow.Author.Tests.{le-ltb, leb-true, leb-false, eq-eqb}
use Rattle.line.specs.Card.{Alike}
use Rattle.book.specs.First.{is_nothing}
use Rattle.book.proofs.Firsts.{lowest_same}
use Rattle.book.specs.Format.{modules, mark}
use Rattle.side.specs.Sides.{side_of, bytes_for, spare_test}
use Rattle.side.specs.Given.{misplaced, separates, is_short, is_good, given_sound, given}

-- a list is as short as its first n elements are
short_take : (n : ℕ) (l : List ℕ) → ltb (length l) n ≡ ltb (length (take n l)) n
short_take n l = go (leb n (length l)) refl
  where
    go : (b : Bool) → leb n (length l) ≡ b → ltb (length l) n ≡ ltb (length (take n l)) n
    go true e =
        let h = leb-true n (length l) e in
        le-ltb (length l) n h ∙ sym (le-ltb (length (take n l)) n (omega (arith, length-take-le n l h)))
    go false e = let h = leb-false n (length l) e in ap (λ (k : List ℕ). ltb (length k) n) (sym (take_all n l (omega arith)))

module _ (s l k : List ℕ) (e : take (bytes_for (modules s)) l ≡ take (bytes_for (modules s)) k) where
  byte : (i : ℕ) → i < bytes_for (modules s) → get_or l i 0 ≡ get_or k i 0
  byte i h = sym (get_or-take (bytes_for (modules s)) l i 0 h) ∙ ap (λ (b : List ℕ). get_or b i 0) e ∙ get_or-take (bytes_for (modules s)) k i 0 h

  pub one_side : Alike (modules s) (side_of l) (side_of k)
  one_side m h = ap (λ (b : ℕ). eqb (b / 2 ^ (m % 8) % 2) 1) (byte (m / 8) (omega arith))

  one_short : is_short s l ≡ is_short s k
  unfolding is_short
  one_short =
      short_take (bytes_for (modules s)) l ∙ ap (λ (b : List ℕ). ltb (length b) (bytes_for (modules s))) e ∙ sym (short_take (bytes_for (modules s)) k)

  one_separates : separates s (side_of l) ≡ separates s (side_of k)
  unfolding separates misplaced
  one_separates =
      ap is_nothing
      (lowest_same (misplaced s (side_of l)) (misplaced s (side_of k)) (modules s)
      (λ m h. ap (λ (b : Bool). (eqb (mark s m) 1 && not b) || (eqb (mark s m) 2 && b)) (one_side m h)))

  one_spare : spare_test l (modules s) ≡ spare_test k (modules s)
  one_spare = go (ℕ_discrete (modules s % 8) 0)
    where
      go : Dec (modules s % 8 ≡ 0) → spare_test l (modules s) ≡ spare_test k (modules s)
      go (yes z) = rw (eq-eqb (modules s % 8) 0 z)
      go (no z) = ap (λ (b : ℕ). eqb (modules s % 8) 0 || eqb (b / 2 ^ (modules s % 8)) 0) (byte (modules s / 8) (omega (arith, z)))

  pub one_given : given s l ≡ given s k
  unfolding given given_sound is_good
  one_given = rw (one_short, one_separates, one_spare)
