use borrow.Author.Tests.{lt-ltb, le-ltb}
use mathlib.Core.Bool.{or-false}
use Rattle.book.specs.Checks.{bad_pin}
use Rattle.book.proofs.layout.Layout.pin_is_bad.Goals as goal

pub returns-then-j-gt0 : goal.returns-then-j-gt0
unfolding bad_pin
returns-then-j-gt0 c = rw (lt-ltb 0 c.args.j c.if-j-gt0.true, c.pin-m.ensures.0, c.modules-limit.ensures, c.pin.ensures.0)

pub returns-else-j-gt0 : goal.returns-else-j-gt0
unfolding bad_pin
returns-else-j-gt0 c = rw (le-ltb 0 c.args.j c.if-j-gt0.false, or-false, c.modules-limit.ensures, c.pin-m.ensures.0)
