-- `walk::round::step` meets its contract: the band says below, within or above. Assumes nothing.
use Rattle.walk.proofs.Steps.{stepped, stops_pins}
use Rattle.side.specs.Sides.{side_of}
use mathlib.Core.Path.{refl, sym, ◌∙◌}
use Rattle.walk.proofs.round.step.Goals as goal

pub returns-in-Below : goal.returns-in-Below
returns-in-Below c =
    let t = c.take_one-turn in
    stepped c.args.band c.price-price.ensures.0 c.area-area.ensures.0 c.area-area.ensures.1 (sym c.in-Below.is ∙ c.says.ensures) t.ensures.0 t.ensures.1

pub returns-in-Within : goal.returns-in-Within
returns-in-Within c = stepped c.args.band c.price-price.ensures.0 c.area-area.ensures.0 c.area-area.ensures.1 (sym c.in-Within.is ∙ c.says.ensures) refl (stops_pins c.args.sided.netlist.bytes.now c.args.marks.now (side_of c.args.sided.bits.now) c.requires)

pub returns-in-Above : goal.returns-in-Above
returns-in-Above c =
    let t = c.take_one-turn-in-Above in
    stepped c.args.band c.price-price.ensures.0 c.area-area.ensures.0 c.area-area.ensures.1 (sym c.in-Above.is ∙ c.says.ensures) t.ensures.0 t.ensures.1
