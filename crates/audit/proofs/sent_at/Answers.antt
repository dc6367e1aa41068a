-- `audit::sent_at` meets its contract: the bits of a number, read back, are the number. Assumes nothing.
use mathlib.Core.Path.{ap, ◌∙◌}
use lib.ListN.{get_or}
use lib.IntN.{pos}
use Rattle.line.specs.Flow.{sent}
use Rattle.audit.proofs.Numbers.{back}
use Rattle.audit.proofs.sent_at.Goals as goal

pub returns : goal.returns
returns c = (c.sent_of.ensures.0 ∙ ap sent (back (get_or c.args.flow.now c.args.p (pos 0)) (record { sfits = c.sent_of-arg-1.given })), c.sent_of.ensures.1)
