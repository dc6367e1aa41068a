-- `flow::engine::net_sums` meets its contract: the nets below `n` have their sums (`Summed`). Assumes nothing.
use Rattle.flow.specs.Raise.{Summed}
use Rattle.flow.proofs.engine.net_sums.Given as goal

abbrev pub invariant-loop-n : goal.invariant-loop-n
invariant-loop-n l = Summed l.first l.flow l.n l.sums
