-- `audit::is_uneven` meets its contract. Assumes nothing.
use mathlib.Core.Path.{sym}
use Rattle.audit.proofs.is_uneven.Goals as goal

pub returns : goal.returns
returns c = rw (sym c.mark.ensures, c.is_free.ensures)
