-- `Band::says` meets its contract: each way out is what the tests that led to it pick. Assumes nothing.
use Rattle.gate.proofs.Band.says.Goals as goal

pub returns-then-self-a : goal.returns-then-self-a
returns-then-self-a c = rw c.if-self-a.true

pub returns-then-a-self : goal.returns-then-a-self
returns-then-a-self c = rw (c.if-self-a.false, c.if-a-self.true)

pub returns : goal.returns
returns c = rw (c.if-self-a.false, c.if-a-self.false)
