-- `side::is_short` meets its contract. Assumes nothing.
use Rattle.side.specs.Given.{is_short}
use Rattle.side.proofs.is_short.Goals as goal

pub returns : goal.returns
unfolding is_short
returns c = rw c.modules.ensures
