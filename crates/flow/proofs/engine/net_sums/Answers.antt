-- `flow::engine::net_sums` meets its contract: the nets below `n` have their sums (`Summed`). Assumes nothing.
use native.Mathlib.Omega.{arith}
use Rattle.flow.proofs.RaiseLaws.{part_sum, summed_more}
use Rattle.flow.proofs.engine.net_sums.Goals as goal

pub net_sum-requires : goal.net_sum-requires
net_sum-requires c = omega (arith, part_sum c.args.first.now c.args.flow.now c.loop-n.n c.from.ensures c.from-in-loop-n.ensures, c.requires.few c.loop-n.n (omega arith))

pub loop-n-preserved : goal.loop-n-preserved
loop-n-preserved c = summed_more _ _ _ _ (omega arith) (omega (arith, part_sum c.args.first.now c.args.flow.now c.loop-n.n c.from.ensures c.from-in-loop-n.ensures)) c.loop-n.invariant
