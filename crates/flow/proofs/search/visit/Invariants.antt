-- `flow::search::visit` meets its contract: the module's places before that of `a` have been visited (`PinsDone`). Assumes nothing.
use Prim.Native.Nat.{◌+◌}
use lib.ListN.{get_or}
use Rattle.flow.specs.Search.{st, PinsDone}
use Rattle.flow.proofs.search.visit.Given as goal

abbrev pub invariant-loop-a : goal.invariant-loop-a
invariant-loop-a l =
    PinsDone l.back l.board.first.now l.board.mods.now l.board.weight.now l.flow l.sums l.board.nets.now l.board.pins.now l.u (get_or l.board.at.now l.u 0) (get_or l.board.at.now l.u 0 + l.a-index) (st l.initial.queue l.initial.how l.initial.seen) l.t (st l.queue l.how l.seen) l.tail
