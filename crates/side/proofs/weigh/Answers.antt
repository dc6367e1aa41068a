-- `side::weigh` meets its contract, by each way out. Assumes nothing.
use native.Mathlib.Omega.{arith}
use Rattle.side.proofs.weigh.Goals as goal

pub returns-then-counts : goal.returns-then-counts
returns-then-counts c = (rw c.if-counts.true c.weight.ensures.0, omega arith)

pub returns-else-counts : goal.returns-else-counts
returns-else-counts c = (rw c.if-counts.false, omega arith)
