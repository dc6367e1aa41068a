-- The flow stays steady and the way a thread, of which `u` is the end.
use Rattle.climb.specs.Climb.{WayTo, SteadyOn}
use Rattle.climb.proofs.climb.try_meter.Given as goal

abbrev pub invariant-loop : goal.invariant-loop
invariant-loop l =
    SteadyOn l.land.board l.sums l.flow × WayTo l.land.board l.how l.seen l.u
