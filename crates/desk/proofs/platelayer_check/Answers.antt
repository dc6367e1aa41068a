-- `desk::platelayer_check` meets its contract: the place is small. Assumes nothing.
use mathlib.Core.Path.{◌∙◌, sym}
use Rattle.desk.proofs.Places.{check_place}
use Rattle.desk.proofs.platelayer_check.Goals as goal

pub refused-requires : goal.refused-requires
refused-requires c =
    let a = c.args in
    let bytes = c.type_inv.side in
    check_place a.book.now a.side.now a.flow.now a.price c.in-Err.why (λ i. (bytes i).fits) (sym c.check.ensures ∙ c.in-Err.is)

pub returns-in-Ok : goal.returns-in-Ok
returns-in-Ok c = rw (sym c.check.ensures ∙ c.in-Ok.is) c.done.ensures

pub returns-in-Err : goal.returns-in-Err
returns-in-Err c = rw (sym c.check.ensures ∙ c.in-Err.is) c.refused.ensures
