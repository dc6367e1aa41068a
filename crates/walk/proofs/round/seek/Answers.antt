-- `walk::round::seek` meets its contract: the row of cut modules is that of the page. Assumes nothing.
use Rattle.walk.proofs.Steps.{choice_row}
use Rattle.walk.specs.Parts.{side_from}
use Rattle.side.specs.Sides.{side_of}
use mathlib.Core.Path.{◌∙◌}
use Rattle.walk.proofs.round.seek.Goals as goal

pub returns : goal.returns
returns c =
    let a = c.args in
    let p = c.requires in
    let cut-row' = c.cut_row in
    c.choose.ensures ∙ choice_row a.sided.netlist.bytes.now a.marks.now (side_of a.sided.bits.now) (side_from a.on (side_of a.sided.bits.now)) _ _ p.long cut-row'.ensures
