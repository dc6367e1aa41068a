-- `flow::engine::raise` meets its contract: the flow is fair and the sums are its own (`Steady`); the measure is the value that is still to come. Assumes nothing.
use Rattle.flow.specs.Board.{board_card}
use Rattle.flow.specs.Raise.{Steady}
use Rattle.flow.proofs.WholeLaws.{to_come}
use Rattle.flow.proofs.engine.raise.Given as goal

abbrev pub invariant-loop-more : goal.invariant-loop-more
invariant-loop-more l = Steady (board_card l.board) l.board.mods.now l.sums l.flow

abbrev pub decreases-loop-more : goal.decreases-loop-more
decreases-loop-more l = to_come (board_card l.board) l.flow
