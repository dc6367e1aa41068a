-- `flow::search::search` meets its contract: `Bfs`, with the queue's head and tail; the measure is the modules that the head has not passed. Assumes nothing.
use Prim.Native.Nat.{◌-◌}
use lib.ListN.{length}
use Rattle.flow.specs.Search.{st}
use Rattle.flow.proofs.SearchLaws.{Bfs}
use Rattle.flow.proofs.search.search.Given as goal

abbrev pub invariant-loop-head : goal.invariant-loop-head
invariant-loop-head l =
    Bfs l.back l.board.first.now l.board.mods.now l.board.weight.now l.flow l.sums l.board.nets.now l.board.mark.now (st l.queue l.how l.seen) l.head l.tail

abbrev pub decreases-loop-head : goal.decreases-loop-head
decreases-loop-head l =
    length l.board.mark.now - l.head
