-- `flow::search::begin` meets its contract: the modules below `m` have been looked at (`Begun`). Assumes nothing.
use mathlib.Core.Path.{refl}
use Rattle.flow.proofs.SearchLaws.{begun_none, begun_yes, begun_no}
use Rattle.flow.proofs.search.begin.Goals as goal
use Rattle.flow.proofs.search.begin.Goals.{then-mark-k, else-mark-k}

pub loop-m-init : goal.loop-m-init
loop-m-init c = begun_none _ _ _ _ c.requires.0 c.requires.1

pub loop-m-preserved : goal.loop-m-preserved
loop-m-preserved c =
    elim c.if-mark-k.branch [
      | then-mark-k w ↦ rw (w.queue-is, w.how-is, w.t-is) (begun_yes _ _ c.loop-m.invariant c.loop-m-test.true w.if-mark-k.true w.pack.ensures refl)
      | else-mark-k w ↦ rw (w.queue-is, w.how-is, w.t-is) (begun_no _ _ c.loop-m.invariant c.loop-m-test.true w.if-mark-k.false)
    ]
