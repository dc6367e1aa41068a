-- `desk::platelayer_move` meets its contract: the change is of 64 bits, and the place is small. Assumes nothing.
use borrow.Author.Rules.{rules}
use mathlib.Core.Path.{◌∙◌, sym}
use mir.ValLaws.{to_z-of_z}
use mir.Val.{SFits}
use mir.Syntax.{w64}
use Rattle.desk.proofs.Places.{move_place}
use Rattle.desk.proofs.platelayer_move.Goals as goal

pub refused-requires : goal.refused-requires
refused-requires c =
    let a = c.args in
    let bytes = c.type_inv.side in
    move_place a.book.now a.side.now a.«module» c.in-Err.refusal (λ i. (bytes i).fits) (sym c.change.ensures ∙ c.in-Err.is)

pub returns-in-Ok : goal.returns-in-Ok
returns-in-Ok c =
    let f : SFits w64 c.in-Ok.change = search rules in
    rw (sym c.change.ensures ∙ c.in-Ok.is) (c.done.ensures ∙ rw (to_z-of_z w64 c.in-Ok.change f))

pub returns-in-Err : goal.returns-in-Err
returns-in-Err c = rw (sym c.change.ensures ∙ c.in-Err.is) c.refused.ensures
