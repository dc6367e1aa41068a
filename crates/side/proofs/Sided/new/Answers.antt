-- `side::Sided::new` meets its contract: a side that is not short is long enough. Assumes nothing.
use mathlib.Core.Path.{sym}
use borrow.Author.Tests.{ltb-false}
use Rattle.side.specs.Given.{is_short}
use Rattle.side.proofs.Sided.new.Goals as goal

pub invariant_of-result : goal.invariant_of-result
unfolding is_short
invariant_of-result c = record { enough = ltb-false _ _ (sym c.if-is_short.ensures) }
