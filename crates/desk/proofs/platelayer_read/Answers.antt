-- `desk::platelayer_read` meets its contract: the counts and the place are small. Assumes nothing.
use mathlib.Core.Path.{◌∙◌, sym}
use native.Mathlib.Omega.{arith}
use lib.IntN.{pos}
use mir.Val.{SFits}
use mir.ValLaws.{to_z-of_z}
use mir.Syntax.{w64}
use Rattle.desk.proofs.Values.{fits, counts_few}
use Rattle.desk.proofs.Places.{read_place}
use Rattle.desk.proofs.platelayer_read.Goals as goal
use Rattle.desk.proofs.platelayer_read.Goals.{In-Ok}

modules_fit : (c : In-Ok) → SFits w64 (pos c.in-Ok.b.modules)
modules_fit c =
    fits c.in-Ok.b.modules (omega (arith, (counts_few c.args.book.now c.in-Ok.b (sym c.read.ensures ∙ c.in-Ok.is)).modules_few))

nets_fit : (c : In-Ok) → SFits w64 (pos c.in-Ok.b.nets)
nets_fit c =
    fits c.in-Ok.b.nets (omega (arith, (counts_few c.args.book.now c.in-Ok.b (sym c.read.ensures ∙ c.in-Ok.is)).nets_few))

pins_fit : (c : In-Ok) → SFits w64 (pos c.in-Ok.b.pins)
pins_fit c =
    fits c.in-Ok.b.pins (omega (arith, (counts_few c.args.book.now c.in-Ok.b (sym c.read.ensures ∙ c.in-Ok.is)).pins_few))

pub overflow_cast-b : goal.overflow_cast-b
overflow_cast-b c = modules_fit (goal.at.overflow_cast-b c).In-Ok

pub overflow_cast-b-in-Ok : goal.overflow_cast-b-in-Ok
overflow_cast-b-in-Ok c = nets_fit (goal.at.overflow_cast-b-in-Ok c).In-Ok

pub overflow_cast-b-in-Ok-2 : goal.overflow_cast-b-in-Ok-2
overflow_cast-b-in-Ok-2 c = pins_fit (goal.at.overflow_cast-b-in-Ok-2 c).In-Ok

pub refused-requires : goal.refused-requires
refused-requires c = read_place c.args.book.now (sym c.read.ensures ∙ c.in-Err.is)

pub returns-in-Ok : goal.returns-in-Ok
returns-in-Ok c =
    let m = to_z-of_z w64 (pos c.in-Ok.b.modules) (modules_fit (goal.at.returns-in-Ok c).In-Ok) in
    let n = to_z-of_z w64 (pos c.in-Ok.b.nets) (nets_fit (goal.at.returns-in-Ok c).In-Ok) in
    let p = to_z-of_z w64 (pos c.in-Ok.b.pins) (pins_fit (goal.at.returns-in-Ok c).In-Ok) in
    rw (sym c.read.ensures ∙ c.in-Ok.is) (c.done.ensures ∙ rw (m, n, p))

pub returns-in-Err : goal.returns-in-Err
returns-in-Err c = rw (sym c.read.ensures ∙ c.in-Err.is) c.refused.ensures
