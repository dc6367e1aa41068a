-- `desk::platelayer_split` meets its contract: what the split ensures, with its numbers. Assumes nothing.
use mathlib.Core.Path.{◌∙◌}
use native.Mathlib.Omega.{arith}
use lib.IntN.{pos}
use mir.Val.{SFits}
use mir.ValLaws.{to_z-of_z}
use mir.Syntax.{w64}
use Rattle.desk.proofs.Values.{fits, split_few}
use Rattle.desk.proofs.Places.{split_place}
use Rattle.desk.proofs.platelayer_split.Goals as goal
use Rattle.desk.proofs.platelayer_split.Goals.{In-Ok}

price_fits : (c : In-Ok) → SFits w64 (pos c.in-Ok.cheapest)
price_fits c =
    let a = c.args in
    let bytes = c.type_inv.book in
    let split' = c.split in
    fits c.in-Ok.cheapest (omega (arith, split_few a.book.now _ _ c.in-Ok.cheapest (λ i. (bytes i).fits) (rw c.in-Ok.is at split'.ensures)))

pub overflow_cast-cheapest : goal.overflow_cast-cheapest
overflow_cast-cheapest c = price_fits (goal.at.overflow_cast-cheapest c).In-Ok

pub refused-requires : goal.refused-requires
refused-requires c =
    let a = c.args in
    let split' = c.split in
    split_place a.book.now _ _ c.in-Err.why (rw c.in-Err.is at split'.ensures)

pub returns-in-Ok : goal.returns-in-Ok
returns-in-Ok c =
    let split' = c.split in
    record {
      answer = split'.result;
      split = split'.ensures;
      numbers = rw c.in-Ok.is (c.done.ensures ∙ rw (to_z-of_z w64 (pos c.in-Ok.cheapest) (price_fits (goal.at.returns-in-Ok c).In-Ok)));
    }

pub returns-in-Err : goal.returns-in-Err
returns-in-Err c =
    let split' = c.split in
    record { answer = split'.result; split = split'.ensures; numbers = rw c.in-Err.is c.refused.ensures }
