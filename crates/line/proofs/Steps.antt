-- A side is closed under a flow when no step leaves it. A step goes from pin a to pin b of one net, where one more can pass; it is the step of `Ways` by `plainly`
-- at 1. Assumes nothing.
use mathlib.Core.Logic.{◌⊎◌, inl, inr}
use mathlib.Core.List.{List}
use mathlib.Core.Bool.{true}
use Prim.Native.Nat.{ℕ, ◌+◌, ◌≤◌, ◌<◌}
use native.Mathlib.Omega.{arith}
use lib.IntN.{ℤ, pos}
use lib.ListN.{length, get_or}
use lib.Dec.{T}
use Rattle.line.specs.Card.{Net, Card, Side}
use Rattle.line.specs.Flow.{sent, taken, total_sent, EachNet}
use Rattle.line.proofs.Ways.{PassesBy}

-- a takes less, or b sends less, or what the net's pins send is below its weight
abbrev pub Passes : Net → List ℤ → ℕ → ℕ → Type 0
Passes n xs a b = (0 < taken (get_or xs a (pos 0))) ⊎ ((0 < sent (get_or xs b (pos 0))) ⊎ (total_sent xs < n.weight))

-- no step of the net leaves s
abbrev pub NetKeeps : Side → Net → List ℤ → Type 0
NetKeeps s n xs = (a b : ℕ) → a < length n.pins → b < length n.pins → T (s (get_or n.pins a 0)) → Passes n xs a b → T (s (get_or n.pins b 0))

-- no step leaves s
abbrev pub Closed : Card → Side → List ℤ → Type 0
Closed c s xs = EachNet (NetKeeps s) c.nets xs

module _ (n : Net) (ys : List ℤ) (a b : ℕ) where
  pub passes_plain : PassesBy (λ i. true) (λ i. true) n ys a b 1 → Passes n ys a b
  passes_plain p = go p.room
    where
      go : (1 ≤ taken (get_or ys a (pos 0))) ⊎ ((1 ≤ sent (get_or ys b (pos 0))) ⊎ (total_sent ys + 1 ≤ n.weight)) → Passes n ys a b
      go (inl h) = inl h
      go (inr (inl h)) = inr (inl h)
      go (inr (inr h)) = inr (inr (omega arith))

  pub plain_passes : Passes n ys a b → PassesBy (λ i. true) (λ i. true) n ys a b 1
  plain_passes p = record { leave = inl tt; enter = inl tt; room = go p }
    where
      go : Passes n ys a b → (1 ≤ taken (get_or ys a (pos 0))) ⊎ ((1 ≤ sent (get_or ys b (pos 0))) ⊎ (total_sent ys + 1 ≤ n.weight))
      go (inl h) = inl h
      go (inr (inl h)) = inr (inl h)
      go (inr (inr h)) = inr (inr (omega arith))
