-- `walk::walk_checked` meets its contract: the walk as it ended is what the call leaves. Assumes nothing.
use Rattle.walk.proofs.Whole.{wrote}
use Rattle.gate.specs.Gates.{band_says}
use mathlib.Core.Path.{refl}
use Rattle.walk.proofs.walk_checked.Goals as goal

pub finish-requires : goal.finish-requires
finish-requires c =
    let p = c.requires in
    let band' = c.band-band in
    let run' = c.run-w in
    (p.0, (run'.ensures (band_says band'.result) (λ a l. refl)).spare)

pub returns : goal.returns
returns c =
    let a = c.args in
    let whole-area' = c.whole_area in
    let band' = c.band-band in
    let run' = c.run-w in
    let finish' = c.finish in
    wrote a.netlist.bytes.now a.gate whole-area'.result band'.result a.side.now a.rows.now _ _ run'.result finish'.result band'.ensures whole-area'.ensures.0 run'.ensures finish'.ensures
