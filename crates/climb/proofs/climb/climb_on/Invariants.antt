-- Before each round the flow is steady and no module is on the way.
use Rattle.climb.specs.Climb.{Empty, Sized, SteadyOn}
use Rattle.climb.proofs.climb.climb_on.Given as goal

abbrev pub invariant-loop : goal.invariant-loop
invariant-loop l =
    SteadyOn l.land.board l.sums l.flow × Sized l.land.board.mark.now l.land.board.weight.now l.how l.seen × Empty l.how
