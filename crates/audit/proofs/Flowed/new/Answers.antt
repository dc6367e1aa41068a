-- `audit::Flowed::new` meets its contract: a flow that is not short has a number for each pin. Assumes nothing.
use mathlib.Core.Path.{refl}
use borrow.Author.Tests.{lt-ltb, le-ltb}
use Rattle.audit.specs.Checker.{is_short_flow}
use Rattle.audit.proofs.Flowed.new.Goals as goal

pub returns-then-flow-pins-clause-short : goal.returns-then-flow-pins-clause-short
unfolding is_short_flow
returns-then-flow-pins-clause-short c = (refl, rw (← c.pins.ensures) (lt-ltb _ _ c.if-flow-pins.true))

pub returns-clause-good : goal.returns-clause-good
unfolding is_short_flow
returns-clause-good c = (refl, refl, rw (← c.pins.ensures) (le-ltb _ _ c.if-flow-pins.false))
