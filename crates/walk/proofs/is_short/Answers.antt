-- `walk::is_short` meets its contract: either buffer. Assumes nothing.
use Rattle.walk.specs.Call.{too_short}
use Rattle.side.specs.Given.{is_short}
use Rattle.std.specs.Prelude.{ℕ, ◌+◌, ◌*◌, Bool, ◌||◌, ltb, length}
use mathlib.Core.Path.{ap₂}
use Rattle.walk.proofs.is_short.Goals as goal

pub returns : goal.returns
unfolding too_short is_short
returns c = ap₂ (λ (b : Bool) (n : ℕ). b || ltb (length c.args.rows.now) (12 * (n + 1))) c.is_short.ensures c.free_count.ensures.0
