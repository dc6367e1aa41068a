-- `side::Sided::misplaced` meets its contract, by each mark. Assumes nothing.
use Rattle.std.specs.Prelude.{◌≡◌, Bool, true, false, ◌||◌}
use mathlib.Core.Path.{refl, sym, ap, ◌∙◌}
use Rattle.side.specs.Given.{misplaced}
use Rattle.side.proofs.Sided.misplaced.Goals as goal

or_none : (b : Bool) → b ≡ (b || false)
or_none true = refl
or_none false = refl

pub returns-in-Free : goal.returns-in-Free
unfolding misplaced
returns-in-Free c = rw (sym c.in-Free.ensures)

pub returns-in-Meter : goal.returns-in-Meter
unfolding misplaced
returns-in-Meter c = rw (sym c.in-Meter.ensures, c.inside-on.ensures) (or_none _)

pub returns-in-Maker : goal.returns-in-Maker
unfolding misplaced
returns-in-Maker c = rw (sym c.in-Maker.ensures) c.inside-on.ensures
