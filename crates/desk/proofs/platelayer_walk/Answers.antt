-- `desk::platelayer_walk` meets its contract: what the walk ensures, with its numbers; the rounds and the place are small. Assumes nothing.
use mathlib.Core.Path.{◌∙◌, ap}
use Rattle.std.specs.Prelude.{Err}
use native.Mathlib.Omega.{arith}
use lib.IntN.{pos}
use mir.Val.{SFits}
use mir.ValLaws.{to_z-of_z}
use mir.Syntax.{w64}
use Rattle.desk.proofs.Values.{fits, rounds_most}
use Rattle.desk.proofs.Places.{walk_place}
use Rattle.desk.proofs.platelayer_walk.Goals as goal
use Rattle.desk.proofs.platelayer_walk.Goals.{In-Ok, In-Err-Stuck}

done_fits : (c : In-Ok) → SFits w64 (pos c.in-Ok.d.rounds)
done_fits c =
    let a = c.args in
    let walk' = c.walk in
    fits c.in-Ok.d.rounds (omega (arith, rounds_most a.book.now _ _ _ _ (rw c.in-Ok.is at walk'.ensures)))

stuck_fits : (c : In-Err-Stuck) → SFits w64 (pos c.in-Err-Stuck.rounds)
stuck_fits c =
    let a = c.args in
    let walk' = c.walk in
    fits c.in-Err-Stuck.rounds (omega (arith, rounds_most a.book.now _ _ _ _ (rw (c.in-Err-Stuck.is ∙ ap Err c.in-Err-Stuck.field-0-is) at walk'.ensures)))

pub overflow_cast-d-in-Ok : goal.overflow_cast-d-in-Ok
overflow_cast-d-in-Ok c = done_fits (goal.at.overflow_cast-d-in-Ok c).In-Ok

pub overflow_cast-rounds : goal.overflow_cast-rounds
overflow_cast-rounds c = stuck_fits (goal.at.overflow_cast-rounds c).In-Err-Stuck

pub refused-requires-in-Err-Refused : goal.refused-requires-in-Err-Refused
refused-requires-in-Err-Refused c =
    let a = c.args in
    let walk' = c.walk in
    walk_place a.book.now _ _ _ _ (rw (c.in-Err-Refused.is ∙ ap Err c.in-Err-Refused.field-0-is) at walk'.ensures)

pub returns-in-Ok : goal.returns-in-Ok
returns-in-Ok c =
    let gate = c.gate_of in
    let walk' = c.walk in
    let p = to_z-of_z w64 (pos c.in-Ok.d.price) (fits c.in-Ok.d.price (omega arith)) in
    let n = to_z-of_z w64 (pos c.in-Ok.d.rounds) (done_fits (goal.at.returns-in-Ok c).In-Ok) in
    record { answer = _; walked = rw gate.ensures at walk'.ensures; numbers = rw c.in-Ok.is (c.done.ensures ∙ rw (p, n)) }

pub returns-in-Err-Stuck : goal.returns-in-Err-Stuck
returns-in-Err-Stuck c =
    let gate = c.gate_of in
    let walk' = c.walk in
    let n = to_z-of_z w64 (pos c.in-Err-Stuck.rounds) (stuck_fits (goal.at.returns-in-Err-Stuck c).In-Err-Stuck) in
    record { answer = _; walked = rw gate.ensures at walk'.ensures; numbers = rw (c.in-Err-Stuck.is ∙ ap Err c.in-Err-Stuck.field-0-is) (c.refused.ensures ∙ rw n) }

pub returns-in-Err-Refused : goal.returns-in-Err-Refused
returns-in-Err-Refused c =
    let gate = c.gate_of in
    let walk' = c.walk in
    record { answer = _; walked = rw gate.ensures at walk'.ensures; numbers = rw (c.in-Err-Refused.is ∙ ap Err c.in-Err-Refused.field-0-is) c.refused-in-Err-Refused.ensures }
