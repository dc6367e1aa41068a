-- `audit::Flowed::rules` meets its contract, by each way out. Assumes nothing.
use mathlib.Core.Path.{sym, ◌∙◌}
use Rattle.audit.specs.Rules.{ruled_of}
use Rattle.audit.proofs.Flowed.rules.Goals as goal

pub returns-in-Some : goal.returns-in-Some
unfolding ruled_of
returns-in-Some c = rw (sym c.broken_net.ensures ∙ c.in-Some.is)

pub returns : goal.returns
unfolding ruled_of
returns c = rw (sym c.broken_net.ensures ∙ c.in_default.is) c.balance.ensures
