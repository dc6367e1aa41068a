-- `desk::platelayer_price` meets its contract: the price and the place are small. Assumes nothing.
use mathlib.Core.Path.{◌∙◌, sym}
use native.Mathlib.Omega.{arith}
use lib.IntN.{pos}
use mir.Val.{SFits}
use mir.ValLaws.{to_z-of_z}
use mir.Syntax.{w64}
use Rattle.desk.proofs.Values.{fits, price_few}
use Rattle.desk.proofs.Places.{price_place}
use Rattle.desk.proofs.platelayer_price.Goals as goal
use Rattle.desk.proofs.platelayer_price.Goals.{In-Ok}

price_fits : (c : In-Ok) → SFits w64 (pos c.in-Ok.price)
price_fits c =
    let a = c.args in
    let bytes = c.type_inv.book in
    fits c.in-Ok.price (omega (arith, price_few a.book.now a.side.now c.in-Ok.price (λ i. (bytes i).fits) (sym c.price.ensures ∙ c.in-Ok.is)))

pub overflow_cast-price : goal.overflow_cast-price
overflow_cast-price c = price_fits (goal.at.overflow_cast-price c).In-Ok

pub refused-requires : goal.refused-requires
refused-requires c =
    let a = c.args in
    let bytes = c.type_inv.side in
    price_place a.book.now a.side.now c.in-Err.why (λ i. (bytes i).fits) (sym c.price.ensures ∙ c.in-Err.is)

pub returns-in-Ok : goal.returns-in-Ok
returns-in-Ok c =
    rw (sym c.price.ensures ∙ c.in-Ok.is) (c.done.ensures ∙ rw (to_z-of_z w64 (pos c.in-Ok.price) (price_fits (goal.at.returns-in-Ok c).In-Ok)))

pub returns-in-Err : goal.returns-in-Err
returns-in-Err c = rw (sym c.price.ensures ∙ c.in-Err.is) c.refused.ensures
