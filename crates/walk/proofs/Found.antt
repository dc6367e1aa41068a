-- The side that a walk finds has the last row (`found_last`), separates the first marks (`found_separates`), and has an area within the gate (`found_within`). Assumes nothing.
use Rattle.std.specs.Prelude.{◌≡◌, ℕ, zero, suc, List, length, get_or}
use mathlib.Core.Path.{refl}
use native.Mathlib.Omega.{arith}
use Rattle.line.specs.Card.{Card, Side, Separates, area_to, remark}
use Rattle.line.proofs.Cheap.{separates_loose}
use Rattle.gate.specs.declared.Verdict.{Verdict}
use Rattle.gate.specs.declared.Verdict.TheVariants.{Within}
use Rattle.walk.specs.Walk.{Stops, Row, Outcome, found, row, after, Walks, stop, go, end}
use Rattle.walk.proofs.Rounds.{after_tightens, turn_within}
use Rattle.walk.proofs.Prices.{no_row}

module _ (c : Card) (area : ℕ → ℕ) (v : ℕ → Verdict) where
  -- the last price is the price of the side found
  pub found_last : {k : ℕ → ℕ} {rs : List Row} {x : Side} → Walks c area v k rs (found x) → (i : ℕ) → suc i ≡ length rs → get_or rs i no_row ≡ row c area x Stops
  found_last (stop x p e) zero l = refl
  found_last (stop x p e) (suc i) l = absurd (omega arith)
  found_last (go y w m p e a) zero l = absurd (some_row a (omega arith))
    where
      some_row : {k : ℕ → ℕ} {rs : List Row} {o : Outcome} → Walks c area v k rs o → length rs ≡ 0 → ⊥
      some_row (stop x p e) h = omega arith
      some_row (go y w m p e a) h = omega arith
      some_row (end x p e) h = omega arith
  found_last (go y w m p e a) (suc i) l = found_last a i (omega arith)

  -- the side found lies over the first meters and off the first makers
  pub found_separates : {k : ℕ → ℕ} {rs : List Row} {x : Side} → Walks c area v k rs (found x) → Separates (remark c k) x
  found_separates (stop x p e) = p.cheapest.separates
  found_separates {k} {rs} {x} (go y w m p e a) = separates_loose (remark c k) k (after w m y k) (after_tightens w m y k c) x (found_separates a)

  -- and the gate takes its area
  pub found_within : {k : ℕ → ℕ} {rs : List Row} {x : Side} → Walks c area v k rs (found x) → v (area_to area x c.modules) ≡ Within
  found_within {k} (stop x p e) = turn_within c area v k x e
  found_within (go y w m p e a) = found_within a
