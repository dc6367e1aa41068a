-- `side::take_off` meets its contract: 1 shifted by m mod 8 is a power of two below 256. Assumes nothing.
use mathlib.Core.Path.{ap, ◌∙◌}
use Prim.Native.Nat.{ℕ, ◌/◌, ◌%◌, ◌^◌, ◌-◌}
use native.Mathlib.Nat.{one-mul, mod-eq_of_lt}
use lib.Bits.{bit_and}
use lib.ListN.{get_or, set}
use lib.Pow.{pow-lt}
use native.Mathlib.Omega.{arith}
use Rattle.side.proofs.take_off.Goals as goal

pub returns : goal.returns
returns c = let l = c.args.side.now in
    let m = c.args.m in
    let j = m % 8 in
    ap (λ (x : ℕ). set l (m / 8) (bit_and (get_or l (m / 8) 0) (255 - x))) (ap (λ (x : ℕ). x % 256) (one-mul (2 ^ j)) ∙ mod-eq_of_lt (pow-lt {i = j} {j = 8} (omega arith)))
