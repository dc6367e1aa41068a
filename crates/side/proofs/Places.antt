-- Where the pins of a net stand in a sound book: within the pin body, and so do those before the next net. Assumes nothing.
use Prim.Native.Nat.{ℕ, ◌+◌, ◌≤◌, ◌<◌}
use mathlib.Core.List.{List}
use native.Mathlib.Omega.{arith}
use Rattle.book.specs.Format.{nets, pins, pin_count, first_pin}
use Rattle.book.specs.Sound.{Sound}
use Rattle.book.proofs.CardLaws.{pin_before, first_pin-suc, first_pin_mono}

module _ (s : List ℕ) (h : Sound s) (n : ℕ) (l : n < nets s) where
  pub pin_within : (j : ℕ) → j < pin_count s n → first_pin s n + j < pins s
  pin_within j k = omega (arith, h.pins_all, pin_before s n (nets s) j l k)

  pub next_within : first_pin s n + pin_count s n ≤ pins s
  next_within = let k : n + 1 ≤ nets s = omega arith in omega (arith, h.pins_all, first_pin-suc s n, first_pin_mono s (n + 1) (nets s) k)
