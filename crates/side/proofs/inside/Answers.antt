-- `side::inside` meets its contract: a shift is a division by a power of two, and the mask 1 keeps the lowest digit. Assumes nothing.
use mathlib.Core.Path.{ap}
use Prim.Native.Nat.{ℕ, ◌/◌, ◌%◌, ◌^◌}
use lib.Bits.{and_mask}
use lib.Dec.{eqb}
use lib.ListN.{get_or}
use Rattle.side.proofs.inside.Goals as goal

pub returns : goal.returns
returns c =
    let l = c.args.side.now in
    let m = c.args.m in
    ap (λ (x : ℕ). eqb x 1) (and_mask (get_or l (m / 8) 0 / 2 ^ (m % 8)) 1)
