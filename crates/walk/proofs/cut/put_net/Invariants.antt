-- `walk::cut::put_net` meets its contract: the modules of the pins before pin `j` are put on. Assumes nothing.
use Rattle.walk.specs.Parts.{Adds}
use Rattle.book.specs.Cards.{pins_of}
use Rattle.line.specs.Flow.{only}
use Rattle.line.specs.Card.{touches}
use Rattle.std.specs.Prelude.{take}
use Rattle.walk.proofs.cut.put_net.Given as goal

abbrev pub invariant-loop-j : goal.invariant-loop-j
invariant-loop-j l =
    Adds (λ m. touches (only m) (take l.j (pins_of l.netlist.bytes.now l.n))) l.initial.out l.out
