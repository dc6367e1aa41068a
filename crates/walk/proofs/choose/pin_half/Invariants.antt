-- `walk::choose::pin_half` meets its contract: the modules below `i` have their marks. Assumes nothing.
use Rattle.walk.specs.Parts.{half_of, Pinned}
use Rattle.line.specs.Flow.{only}
use Rattle.line.specs.Card.{either}
use Rattle.walk.proofs.choose.pin_half.Given as goal

abbrev pub invariant-loop-i : goal.invariant-loop-i
invariant-loop-i l =
    Pinned l.to (either (half_of l.half) (only l.m)) l.i l.initial.marks l.marks
