use Rattle.book.specs.Checks.{bad_net}
use Rattle.book.proofs.layout.Layout.net_is_bad.Goals as goal

pub returns : goal.returns
unfolding bad_net
returns c = rw (c.weight.ensures.0, c.pin_count.ensures.0)
