-- Between meters the flow is steady and no module is on the way.
use Rattle.climb.specs.Climb.{Empty, Sized, SteadyOn}
use Rattle.climb.proofs.climb.try_all.Given as goal

abbrev pub invariant-loop-s : goal.invariant-loop-s
invariant-loop-s l =
    SteadyOn l.land.board l.sums l.flow × Sized l.land.board.mark.now l.land.board.weight.now l.how l.seen × Empty l.how
