-- `side::Sided::area` meets its contract: `sum` is the area of the modules before `m`. Assumes nothing.
use Prim.Native.Nat.{ℕ, ◌+◌}
use mathlib.Core.Path.{◌≡◌, refl, ap, ap₂, ◌∙◌}
use native.Mathlib.Omega.{arith}
use native.Mathlib.Numerals.{add-one}
use Rattle.line.specs.Card.{area_to}
use Rattle.book.specs.Format.{modules, area}
use Rattle.side.specs.Sides.{side_of}
use Rattle.side.proofs.Sides.{sound_netlist}
use Rattle.side.proofs.Sided.area.Goals as goal

pub loop-m-init : goal.loop-m-init
unfolding area_to
loop-m-init c = (refl, omega arith)

pub loop-m-preserved : goal.loop-m-preserved
unfolding area_to
loop-m-preserved c =
    let i = c.loop-m in
    (rw add-one (ap₂ (λ (a b : ℕ). a + b) i.invariant.0 c.area_at-sum.ensures.0), omega arith)

pub returns : goal.returns
returns c =
    let a = c.args in
    let e : c.loop-m.m ≡ modules a.self.netlist.bytes.now = omega arith in
    (c.loop-m.invariant.0 ∙ ap (area_to (area a.self.netlist.bytes.now) (side_of a.self.bits.now)) e, omega (arith, (sound_netlist a.self.netlist).few_modules))
