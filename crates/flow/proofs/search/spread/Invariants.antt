-- `flow::search::spread` meets its contract: the pins from `lo` up to `i` have been looked at (`Spread`). Assumes nothing.
use Rattle.flow.specs.Search.{Spread}
use Rattle.flow.proofs.search.spread.Given as goal

abbrev pub invariant-loop-i : goal.invariant-loop-i
invariant-loop-i l =
    Spread l.mods l.flow l.scan.all l.scan.back l.scan.from l.scan.undo l.scan.lo l.i l.initial.queue l.initial.how l.t l.queue l.how l.tail
