-- `walk::choose::pin_half` meets its contract: the modules below `i` have their marks. Assumes nothing.
use Rattle.line.specs.Card.{either}
use Rattle.line.specs.Flow.{only}
use Rattle.walk.specs.Parts.{half_of}
use Rattle.walk.proofs.Marks.{pinned_put, pinned_leave}
use Rattle.walk.proofs.choose.pin_half.Goals as goal
use Rattle.walk.proofs.choose.pin_half.Goals.{then-is_pinned, else-is_pinned}

pub loop-i-preserved : goal.loop-i-preserved
loop-i-preserved c =
    let a = c.args in
    let i = c.loop-i in
    let y = either (half_of a.half) (only a.m) in
    elim c.if-is_pinned.branch [
      | then-is_pinned w ↦ rw w.marks-is (pinned_put a.to y i.i a.marks.now i.marks c.is_pinned.result c.loop-i-test.true c.is_pinned.ensures i.invariant w.if-is_pinned.true)
      | else-is_pinned w ↦ rw w.marks-is (pinned_leave a.to y i.i a.marks.now i.marks c.is_pinned.result c.loop-i-test.true c.is_pinned.ensures i.invariant w.if-is_pinned.false)
    ]
