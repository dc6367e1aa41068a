-- `walk::cut::cut_row` meets its contract: the modules on cut nets before `n` are put on, and `first` is the place of the first pin of net `n`. Assumes nothing.
use Rattle.walk.specs.Parts.{Adds}
use Rattle.walk.specs.Walk.{on_cut}
use Rattle.side.specs.Sides.{side_of}
use Rattle.book.specs.Cards.{nets_of}
use Rattle.book.specs.Format.{first_pin}
use Rattle.std.specs.Prelude.{◌≡◌, take}
use Rattle.walk.proofs.cut.cut_row.Given as goal

abbrev pub invariant-loop-n : goal.invariant-loop-n
invariant-loop-n l =
    (l.first ≡ first_pin l.sided.netlist.bytes.now l.n) × Adds (on_cut (take l.n (nets_of l.sided.netlist.bytes.now)) (side_of l.sided.bits.now)) l.initial.out l.out
