use Rattle.book.specs.Checks.{bad_module}
use Rattle.book.proofs.layout.Layout.module_is_bad.Goals as goal

pub returns : goal.returns
unfolding bad_module
returns c = rw (c.area.ensures.0, c.mark.ensures.0)
