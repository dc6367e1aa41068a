-- An area becomes a double exactly, and what a band says of an area is what its gate says. Assumes nothing.
use mathlib.Core.Path.{◌≡◌, refl}
use Prim.Native.Nat.{ℕ, ◌^◌, ◌≤◌}
use native.Mathlib.Nat.{le_trans}
use native.Mathlib.Omega.{arith}
use mathlib.Core.Bool.{false}
use lib.Dec.{lit<, lit≤}
use lib.Ieee.{le}
use lib.Ieee.Bits.{is_true}
use lib.Ieee.Exact.{HasValue}
use lib.Ieee.Order.{le_of_values}
use Rattle.gate.specs.Gates.{zero_f, top_f, dbl, Exactly, band_of, band_says, gate_says}
use Rattle.gate.specs.declared.Gate.{Gate}
use Rattle.gate.specs.declared.Gate.TheVariants.{Open, Share, Bounds}
use Rattle.gate.specs.declared.Verdict.TheVariants.{Within}
use Rattle.gate.proofs.Exact.{dbl_value, exactly}

-- W and an area become doubles exactly
pub dbl_exact : (n : ℕ) → n ≤ 2 ^ 32 → Exactly (dbl n) n 1
dbl_exact n h = exactly (dbl n) n 1 (dbl_value n (le_trans h (lit≤ tt)))

-- every area up to the top lies within the widest band
pub open_says : (w a : ℕ) → a ≤ 2 ^ 24 → band_says (band_of Open w) a ≡ Within
open_says w a h =
    let v : HasValue (dbl a) false a 1 = dbl_value a (le_trans h (lit≤ tt)) in
    rw (
      is_true (le zero_f (dbl a)) (le_of_values zero_f (dbl a) 0 1 a 1 (lit< tt) (lit< tt) (refl, refl) v (omega arith)),
      is_true (le (dbl a) top_f) (le_of_values (dbl a) top_f a 1 (2 ^ 24) 1 (lit< tt) (lit< tt) v (refl, refl) (omega arith)),
    )

-- the worked-out gate stands for the gate in each round
pub band-says : (g : Gate) (w a : ℕ) → a ≤ 2 ^ 24 → band_says (band_of g w) a ≡ gate_says g w a
band-says Open w a h = open_says w a h
band-says (Share r e) w a h = refl
band-says (Bounds low high) w a h = refl
