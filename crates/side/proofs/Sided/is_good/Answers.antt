-- `side::Sided::is_good` meets its contract. Assumes nothing.
use Rattle.side.specs.Given.{is_good}
use Rattle.side.proofs.Sided.is_good.Goals as goal

pub returns : goal.returns
unfolding is_good
returns c = rw (c.separates.ensures, c.spare_clear.ensures)
