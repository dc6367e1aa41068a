-- `side::Sided::crosses` meets its contract: `on` and `off` say whether a pin of net n before pin `j` is on the side, and off it. Assumes nothing.
use mathlib.Core.Path.{◌≡◌}
use lib.ListN.{take}
use Rattle.line.specs.Card.{outside, touches}
use Rattle.book.specs.Cards.{pins_of}
use Rattle.side.specs.Sides.{side_of}
use Rattle.side.proofs.Sided.crosses.Given as goal

abbrev pub invariant-loop-j : goal.invariant-loop-j
invariant-loop-j l = (l.on ≡ touches (side_of l.self.bits.now) (take l.j (pins_of l.self.netlist.bytes.now l.n))) × (l.off ≡ touches (outside (side_of l.self.bits.now)) (take l.j (pins_of l.self.netlist.bytes.now l.n)))
