-- `walk::run::run_on` meets its contract: the walk stands at its marks, with its rows written; fewer modules are free after each round. Assumes nothing.
use Rattle.walk.proofs.Runs.{Going}
use Rattle.walk.specs.Runs.{standing_marks}
use Rattle.walk.specs.Parts.{marks_of}
use Rattle.walk.specs.Walk.{free_to}
use Rattle.book.specs.Format.{modules}
use Rattle.std.specs.Prelude.{◌≡◌, length}
use Rattle.walk.proofs.run.run_on.Given as goal

abbrev pub invariant-loop-w : goal.invariant-loop-w
invariant-loop-w l =
    Going l.numbers.netlist.bytes.now l.band (standing_marks l.numbers.netlist.bytes.now l.initial.w) (standing_marks l.numbers.netlist.bytes.now l.w) l.w.rounds l.initial.rows l.rows × (length l.flow ≡ length l.initial.flow)

abbrev pub decreases-loop-w : goal.decreases-loop-w
decreases-loop-w l =
    free_to (marks_of (standing_marks l.numbers.netlist.bytes.now l.w)) (modules l.numbers.netlist.bytes.now)
