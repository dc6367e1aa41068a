-- A walk by plain trial: every walk comes to something (`run_walks`, `walks_some`), and small ones compute. Assumes nothing.
use Rattle.std.specs.Prelude.{◌≡◌, ℕ, zero, suc, ◌<◌, List, [], ◌∷◌}
use mathlib.Core.Path.{refl}
use native.Mathlib.Omega.{arith}
use native.Mathlib.Nat.{not-suc-le-zero}
use Rattle.line.specs.Card.{Card, Side, remark}
use Rattle.line.proofs.Duality.{Valid}
use Rattle.line.proofs.Trial.{near_in, near_tried}
use Rattle.gate.specs.declared.Verdict.{Verdict}
use Rattle.walk.specs.Walk.{Way, Turn, Stops, Takes, Ends, Row, Outcome, found, none_left, turn, row, after, free_to, Walks, stop, go, end}
use Rattle.walk.proofs.Rounds.{after_valid, round_less}

abbrev step : Card → (ℕ → ℕ) → Side → Turn → (Way → ℕ → List Row × Outcome) → List Row × Outcome
step c area x Stops f = (row c area x Stops ∷ [], found x)
step c area x (Takes w m) f = (row c area x (Takes w m) ∷ (f w m).0, (f w m).1)
step c area x Ends f = (row c area x Ends ∷ [], none_left)

unfoldable pub run : Card → (ℕ → ℕ) → (ℕ → Verdict) → ℕ → (ℕ → ℕ) → List Row × Outcome
run c area v zero k = ([], none_left)
run c area v (suc n) k =
    step c area (near_in (remark c k)) (turn c area v k (near_in (remark c k)))
    (λ w m. run c area v n (after w m (near_in (remark c k)) k))

-- every walk comes to something, in as many rounds as there are free modules and one
pub run_walks : (c : Card) (area : ℕ → ℕ) (v : ℕ → Verdict) (n : ℕ) (k : ℕ → ℕ) → Valid (remark c k) → free_to k c.modules < n →
    Walks c area v k (run c area v n k).0 (run c area v n k).1
unfolding run
run_walks c area v zero k d l = absurd (not-suc-le-zero l)
run_walks c area v (suc n) k d l = by (turn c area v k x) refl (λ w m e. run_walks c area v n (after w m x k) (after_valid c w m x k d) (omega (arith, round_less c area v k x w m e)))
  where
    x : Side
    x = near_in (remark c k)

    by : (t : Turn) → turn c area v k x ≡ t →
        ((w : Way) (m : ℕ) → turn c area v k x ≡ Takes w m → Walks c area v (after w m x k) (run c area v n (after w m x k)).0 (run c area v n (after w m x k)).1) →
        Walks c area v k (step c area x t (λ w m. run c area v n (after w m x k))).0 (step c area x t (λ w m. run c area v n (after w m x k))).1
    by Stops e f = stop x (near_tried (remark c k) d) e
    by (Takes w m) e f = go x w m (near_tried (remark c k) d) e (f w m e)
    by Ends e f = end x (near_tried (remark c k) d) e

pub walks_some : (c : Card) → Valid c → (area : ℕ → ℕ) (v : ℕ → Verdict) → (rs : List Row) × (o : Outcome) × Walks c area v c.mark rs o
walks_some c d area v =
    let n = suc (free_to c.mark c.modules) in
    ((run c area v n c.mark).0, (run c area v n c.mark).1, run_walks c area v n c.mark d (omega arith))
