-- Runs of pins, from a first one up to an end. Assumes nothing.
use mathlib.Core.Path.{sym, subst}
use mathlib.Core.Logic.{◌⊎◌, inl, inr, ⊎_elim}
use Prim.Native.Nat.{ℕ, ◌+◌, ◌≤◌, ◌<◌}
use native.Mathlib.Nat.{eq-or-lt_of_le}
use native.Mathlib.Decide.{dec_lt}
use native.Mathlib.Omega.{arith}
use Rattle.flow.specs.Search.{Pin}

pub pins_none : (P : ℕ → Type 0) (lo k : ℕ) → Pin lo lo k → P k
pins_none P lo k p = let low = p.low in let high = p.high in absurd (omega arith)

pub pins_more : (P : ℕ → Type 0) (lo i : ℕ) → ((k : ℕ) → Pin lo i k → P k) → P i → (k : ℕ) → Pin lo (i + 1) k → P k
pins_more P lo i all here k p =
    let high = p.high in
    ⊎_elim (λ e. subst P (sym e) here) (λ l. all k (record { low = p.low; high = l })) (eq-or-lt_of_le (omega arith))

pub pin_wider : {lo i k : ℕ} → Pin lo i k → Pin lo (i + 1) k
pin_wider p = record { low = p.low; high = omega arith }

pub split : (a b : ℕ) → (a < b) ⊎ (b ≤ a)
split a b = go (dec_lt a b)
  where
    go : Dec (a < b) → (a < b) ⊎ (b ≤ a)
    go (yes l) = inl l
    go (no n) = inr (omega arith)
