-- `side::Sided::area_at` meets its contract, by each way out. Assumes nothing.
use mathlib.Core.Path.{◌≡◌, sym, ◌∙◌}
use mathlib.Core.Bool.{true, false}
use native.Mathlib.Omega.{arith}
use Rattle.side.specs.Sides.{side_of}
use Rattle.side.proofs.Sided.area_at.Goals as goal

pub returns-then-inside : goal.returns-then-inside
returns-then-inside c =
    let t : side_of c.args.self.bits.now c.args.m ≡ true = sym c.inside.ensures ∙ c.if-inside.true in
    (rw t c.area.ensures.0, omega arith)

pub returns-else-inside : goal.returns-else-inside
returns-else-inside c =
    let t : side_of c.args.self.bits.now c.args.m ≡ false = sym c.inside.ensures ∙ c.if-inside.false in
    (rw t, omega arith)
