-- `side::Sided::apart_from` meets its contract: each flag tells of the pins of net n before pin `j`. Assumes nothing.
use mathlib.Core.Path.{◌≡◌}
use lib.ListN.{take}
use Rattle.line.specs.Card.{outside, both, touches}
use Rattle.line.specs.Flow.{only}
use Rattle.book.specs.Cards.{pins_of}
use Rattle.side.specs.Sides.{side_of}
use Rattle.side.proofs.Sided.apart_from.Given as goal

abbrev pub invariant-loop-j : goal.invariant-loop-j
invariant-loop-j l = (l.has ≡ touches (only l.m) (take l.j (pins_of l.self.netlist.bytes.now l.n)))
    × (l.on ≡ touches (both (side_of l.self.bits.now) (outside (only l.m))) (take l.j (pins_of l.self.netlist.bytes.now l.n)))
    × (l.off ≡ touches (both (outside (side_of l.self.bits.now)) (outside (only l.m))) (take l.j (pins_of l.self.netlist.bytes.now l.n)))
