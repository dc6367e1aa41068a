-- `desk::refused` meets its contract: number and place are small, and the machine reads them back. Assumes nothing.
use native.Mathlib.Omega.{arith}
use lib.IntN.{pos}
use mir.Val.{SFits}
use mir.ValLaws.{to_z-of_z}
use mir.Syntax.{w64}
use Rattle.desk.proofs.Values.{fits}
use Rattle.desk.proofs.Places.{number_few}
use Rattle.desk.proofs.refused.Goals as goal
use Rattle.desk.proofs.refused.Goals.{After-number-number, After-place-place}

number_fits : (c : After-number-number) → SFits w64 (pos c.number-number.result)
number_fits c = fits c.number-number.result (omega (arith, c.number-number.ensures, number_few c.args.why))

place_fits : (c : After-place-place) → SFits w64 (pos c.place-place.result)
place_fits c = fits c.place-place.result (omega (arith, c.place-place.ensures, c.requires))

pub overflow_cast-number : goal.overflow_cast-number
overflow_cast-number c = number_fits (goal.at.overflow_cast-number c).After-number-number

pub overflow_cast-place : goal.overflow_cast-place
overflow_cast-place c = place_fits (goal.at.overflow_cast-place c).After-place-place

pub returns : goal.returns
returns c =
    let a = c.args in
    let number = c.number-number in
    let place = c.place-place in
    let n = to_z-of_z w64 (pos number.result) (number_fits (goal.at.returns c).After-number-number) in
    let p = to_z-of_z w64 (pos place.result) (place_fits (goal.at.returns c).After-place-place) in
    rw (n, p, to_z-of_z w64 a.rounds c.ranges.rounds, number.ensures, place.ensures)
