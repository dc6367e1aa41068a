-- The test `separates` says that a side separates, and passes wherever it does. Assumes nothing.
use Rattle.std.specs.Prelude.{Option, Some, None}
use Prim.Native.Nat.{ℕ}
use mathlib.Core.Path.{◌≡◌, refl, ap}
use mathlib.Core.Bool.{Bool, true, false, not, ◌&&◌, ◌||◌, false≢true}
use mathlib.Core.List.{List}
use lib.Dec.{T, eqb, eqb→eq}
use Rattle.book.specs.First.{lowest, is_nothing}
use Rattle.book.proofs.Firsts.{lowest_none, none_lowest}
use Rattle.line.specs.Card.{Side, Separates}
use Rattle.book.specs.Format.{modules, mark}
use Rattle.book.specs.Cards.{card_of}
use Rattle.side.specs.Given.{misplaced, separates}

module _ (s : List ℕ) (x : Side) where
  nothing : (f : Option ℕ) → is_nothing f ≡ true → f ≡ None
  nothing (Some i) e = absurd (false≢true e)
  nothing None e = refl

  pub test_separates : separates s x ≡ true → Separates (card_of s) x
  unfolding separates misplaced
  test_separates e = record {
    meters = λ m l k. in_side (mark s m) (x m) k (lowest_none (misplaced s x) (modules s) (nothing (lowest (misplaced s x) (modules s)) e) m l);
    makers = λ m l k. off_side (mark s m) (x m) k (lowest_none (misplaced s x) (modules s) (nothing (lowest (misplaced s x) (modules s)) e) m l);
  }
    where
      in_side : (k : ℕ) (b : Bool) → k ≡ 1 → T (not ((eqb k 1 && not b) || (eqb k 2 && b))) → T b
      in_side k true e t = tt
      in_side k false e t = rw e at t

      off_side : (k : ℕ) (b : Bool) → k ≡ 2 → T (not ((eqb k 1 && not b) || (eqb k 2 && b))) → T (not b)
      off_side k true e t = rw e at t
      off_side k false e t = tt

  pub separates_test : Separates (card_of s) x → separates s x ≡ true
  unfolding separates misplaced
  separates_test p = ap is_nothing (none_lowest (misplaced s x) (modules s) (λ m l. placed (mark s m) (x m) (p.meters m l) (p.makers m l)))
    where
      here : (a b c : Bool) → (T a → T c) → (T b → T (not c)) → T (not ((a && not c) || (b && c)))
      here true true true f g = g tt
      here true false true f g = tt
      here true b false f g = absurd (f tt)
      here false true true f g = g tt
      here false true false f g = tt
      here false false c f g = tt

      placed : (k : ℕ) (b : Bool) → (k ≡ 1 → T b) → (k ≡ 2 → T (not b)) → T (not ((eqb k 1 && not b) || (eqb k 2 && b)))
      placed k b f g = here (eqb k 1) (eqb k 2) b (λ t. f (eqb→eq k 1 t)) (λ t. g (eqb→eq k 2 t))
