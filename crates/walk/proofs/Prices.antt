-- Prices never fall from row to row (`prices_rise`). Assumes nothing.
use Rattle.std.specs.Prelude.{ℕ, zero, suc, ◌<◌, ◌≤◌, List, [], ◌∷◌, length, get_or}
use native.Mathlib.Omega.{arith}
use native.Mathlib.Nat.{not-suc-le-zero, le_trans, le_of_suc-le-suc}
use Rattle.line.specs.Card.{Card, Side, price, Near, remark}
use Rattle.line.proofs.Cheap.{price_rises}
use Rattle.gate.specs.declared.Verdict.{Verdict}
use Rattle.walk.specs.Walk.{Way, Stops, Row, Outcome, after, Walks, stop, go, end}
use Rattle.walk.proofs.Rounds.{after_tightens}

-- a number that is at most the price of every near side for the marks k
abbrev Under : Card → (ℕ → ℕ) → ℕ → Type 0
Under c k b = (x : Side) → Near (remark c k) x → b ≤ price c.nets x

-- the prices of the rows, from b on, do not fall
abbrev Rising : ℕ → List Row → Type 0
Rising b [] = Unit {0}
Rising b (r ∷ rs) = (b ≤ r.price) × Rising r.price rs

abbrev pub no_row : Row
no_row = record { price = 0; area = 0; turn = Stops }

rising_at : (b : ℕ) (rs : List Row) → Rising b rs → (j : ℕ) → j < length rs → b ≤ (get_or rs j no_row).price
rising_at b [] h j l = absurd (not-suc-le-zero l)
rising_at b (r ∷ rs) h zero l = h.0
rising_at b (r ∷ rs) h (suc j) l = le_trans h.0 (rising_at r.price rs h.1 j (le_of_suc-le-suc l))

rising_both : (b : ℕ) (rs : List Row) → Rising b rs → (i j : ℕ) → i ≤ j → j < length rs → (get_or rs i no_row).price ≤ (get_or rs j no_row).price
rising_both b [] h i j g l = absurd (not-suc-le-zero l)
rising_both b (r ∷ rs) h zero zero g l = omega arith
rising_both b (r ∷ rs) h zero (suc j) g l = rising_at r.price rs h.1 j (le_of_suc-le-suc l)
rising_both b (r ∷ rs) h (suc i) zero g l = absurd (not-suc-le-zero g)
rising_both b (r ∷ rs) h (suc i) (suc j) g l = rising_both r.price rs h.1 i j (le_of_suc-le-suc g) (le_of_suc-le-suc l)

module _ (c : Card) (area : ℕ → ℕ) (v : ℕ → Verdict) where
  -- a round's price is at most that of every near side for the marks after it
  pub round_price : (k : ℕ → ℕ) (x : Side) (w : Way) (m : ℕ) → Near (remark c k) x → Under c (after w m x k) (price c.nets x)
  round_price k x w m p y q = price_rises (remark c k) k (after w m x k) (after_tightens w m x k c) x y p.cheapest q.cheapest

  walks_rising : {k : ℕ → ℕ} {rs : List Row} {o : Outcome} → Walks c area v k rs o → (b : ℕ) → Under c k b → Rising b rs
  walks_rising (stop x p e) b u = (u x p, tt)
  walks_rising {k} (go x w m p e a) b u = (u x p, walks_rising a (price c.nets x) (round_price k x w m p))
  walks_rising (end x p e) b u = (u x p, tt)

  -- prices never fall from row to row
  pub prices_rise : {k : ℕ → ℕ} {rs : List Row} {o : Outcome} → Walks c area v k rs o → (i j : ℕ) → i ≤ j → j < length rs →
      (get_or rs i no_row).price ≤ (get_or rs j no_row).price
  prices_rise {k} {rs} a = rising_both 0 rs (walks_rising a 0 (λ x p. omega arith))
