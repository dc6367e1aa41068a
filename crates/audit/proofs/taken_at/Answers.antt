-- `audit::taken_at` meets its contract: the bits of a number, read back, are the number. Assumes nothing.
use mathlib.Core.Path.{ap, ◌∙◌}
use lib.ListN.{get_or}
use lib.IntN.{pos}
use Rattle.line.specs.Flow.{taken}
use Rattle.audit.proofs.Numbers.{back}
use Rattle.audit.proofs.taken_at.Goals as goal

pub returns : goal.returns
returns c = (c.taken_of.ensures.0 ∙ ap taken (back (get_or c.args.flow.now c.args.p (pos 0)) (record { sfits = c.taken_of-arg-1.given })), c.taken_of.ensures.1)
