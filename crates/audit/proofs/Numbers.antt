-- Signed numbers of 32 bits: the bits of a number, read back, are the number. Assumes nothing.
use mathlib.Core.Path.{◌≡◌}
use lib.IntN.{ℤ}
use mir.Syntax.{w32}
use mir.Val.{to_z, of_z, SFits}
use mir.Facts.{to_z-of_z}

pub back : (z : ℤ) → SFits w32 z → to_z w32 (of_z w32 z) ≡ z
back z f = to_z-of_z {w = w32} {z = z} f
