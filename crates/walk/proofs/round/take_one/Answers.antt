-- `walk::round::take_one` meets its contract: the choice found a module, or none. Assumes nothing.
use Rattle.split.proofs.Loads.{sound_netlist}
use Rattle.walk.proofs.Steps.{takes_pins, taken_small}
use Rattle.walk.specs.Parts.{side_from, marks_of}
use Rattle.walk.specs.Walk.{choice, taking}
use Rattle.book.specs.Cards.{card_of}
use Rattle.side.specs.Sides.{side_of}
use Rattle.std.specs.Prelude.{◌≡◌, not, Some}
use mathlib.Core.Path.{sym, ap, ◌∙◌}
use native.Mathlib.Omega.{arith}
use Rattle.walk.proofs.round.take_one.Goals as goal

pub overflow_cast-result : goal.overflow_cast-result
overflow_cast-result c =
    let a = c.args in
    record { fits = omega (arith, taken_small a.sided.netlist.bytes.now (sound_netlist a.sided.netlist) a.marks.now (side_of a.sided.bits.now) (side_from (not c.is_meter-meter.result) (side_of a.sided.bits.now)) _ (sym c.seek.ensures ∙ c.in-Some.is)) }

pub returns-in-Some : goal.returns-in-Some
returns-in-Some c =
    let a = c.args in
    let x = side_of a.sided.bits.now in
    let e : choice (card_of a.sided.netlist.bytes.now) (marks_of a.marks.now) x (side_from (not c.is_meter-meter.result) x) ≡ Some c.in-Some.m = sym c.seek.ensures ∙ c.in-Some.is in (
      ap (taking a.way) (sym (rw c.is_meter-meter.ensures at e)),
      takes_pins a.sided.netlist.bytes.now a.marks.now x c.requires a.way _ c.in-Some.m (rw (c.number.ensures, c.is_meter-meter.ensures) at c.pin_half.ensures),
    )
