-- Before each push the flow is steady and the way ends at `z`.
use Rattle.climb.specs.Climb.{WayTo, SteadyOn}
use Rattle.climb.proofs.ways.deliver.Given as goal

abbrev pub invariant-loop : goal.invariant-loop
invariant-loop l =
    SteadyOn l.land.board l.sums l.flow × WayTo l.land.board l.how l.seen l.z
