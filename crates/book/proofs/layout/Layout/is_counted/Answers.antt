use Rattle.book.specs.Checks.{counted}
use Rattle.book.proofs.layout.Layout.is_counted.Goals as goal

pub returns : goal.returns
unfolding counted
returns c = rw (c.modules-m.ensures, c.nets.ensures, c.pins.ensures)
