-- `flow::search::search` meets its contract: `Bfs`, with the queue's head and tail; the measure is the modules that the head has not passed. Assumes nothing.
use Rattle.flow.proofs.BoardLaws.{whole}
use Rattle.flow.proofs.SearchLaws.{bfs_more, bfs_end}
use Rattle.flow.proofs.search.search.Goals as goal

pub loop-head-preserved : goal.loop-head-preserved
loop-head-preserved c =
    let b = c.args.board.now in
    bfs_more _ _ _ _ _ _ _ _ b.at.now b.pins.now c.loop-head.invariant (whole b c.requires.0) c.loop-head-test.true c.from-u.ensures c.visit-tail.ensures

pub returns : goal.returns
returns c = bfs_end _ _ _ _ _ _ _ _ c.loop-head.invariant c.loop-head-test.false
