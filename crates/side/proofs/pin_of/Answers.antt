-- `side::pin_of` meets its contract: pin j of net n is within the pin body. Assumes nothing.
use Prim.Native.Nat.{ℕ, ◌+◌, ◌<◌}
use mathlib.Core.Path.{ap, ◌∙◌}
use Rattle.book.specs.Format.{pins, pin}
use Rattle.side.proofs.Places.{pin_within}
use native.Mathlib.Omega.{arith}
use Rattle.side.proofs.pin_of.Goals as goal
use Rattle.side.proofs.pin_of.Goals.{Start}
use Rattle.side.proofs.Sides.{sound_netlist}

within : (c : Start) → c.args.first + c.args.j < pins c.args.netlist.bytes.now
within c =
    let a = c.args in
    let p = c.requires in
    omega (arith, p.0.begins, pin_within a.netlist.bytes.now (sound_netlist a.netlist) a.n p.0.under a.j p.1)

pub overflow_add-first : goal.overflow_add-first
overflow_add-first c = omega (arith, (sound_netlist c.args.netlist).few_pins, within (goal.at.overflow_add-first c).Start)

pub pin-requires : goal.pin-requires
pin-requires c = within (goal.at.pin-requires c).Start

pub returns : goal.returns
returns c = let a = c.args in
    let p = c.requires in
    let e = c.pin.ensures.0 ∙ ap (λ (f : ℕ). pin a.netlist.bytes.now (f + a.j)) p.0.begins in
    (e, omega (arith, e, (sound_netlist a.netlist).pin_module a.n a.j p.0.under p.1))
