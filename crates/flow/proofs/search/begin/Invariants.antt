-- `flow::search::begin` meets its contract: the modules below `m` have been looked at (`Begun`). Assumes nothing.
use Rattle.flow.specs.Search.{Begun}
use Rattle.flow.proofs.search.begin.Given as goal

abbrev pub invariant-loop-m : goal.invariant-loop-m
invariant-loop-m l = Begun l.k l.mark l.m l.queue l.how l.t
