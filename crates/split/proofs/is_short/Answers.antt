use Rattle.split.specs.Splits.{too_short}
use Rattle.split.proofs.is_short.Goals as goal

pub returns : goal.returns
unfolding too_short
returns c = rw (c.is_short.ensures, c.is_short-2.ensures, c.pins.ensures)
