-- `side::Sided::change` meets its contract. The loop's invariant: over the nets before `n`, the price after the move with what is lost is the price before with
-- what is gained. Assumes nothing.
use Prim.Native.Nat.{◌+◌, ◌*◌, ◌≤◌}
use mathlib.Core.Path.{◌≡◌}
use lib.ListN.{take}
use Rattle.line.specs.Card.{price}
use Rattle.book.specs.Format.{first_pin}
use Rattle.book.specs.Cards.{nets_of}
use Rattle.side.specs.Sides.{side_of}
use Rattle.side.specs.Prices.{most_number}
use Rattle.side.specs.Moves.{flipped}
use Rattle.side.proofs.Sided.change.Given as goal

abbrev pub invariant-loop-n : goal.invariant-loop-n
invariant-loop-n l = (price (take l.n (nets_of l.self.netlist.bytes.now)) (flipped (side_of l.self.bits.now) l.m) + l.lost ≡ price (take l.n (nets_of l.self.netlist.bytes.now)) (side_of l.self.bits.now) + l.gained)
    × (l.gained ≤ most_number * l.n)
    × (l.lost ≤ most_number * l.n)
    × (l.first ≡ first_pin l.self.netlist.bytes.now l.n)
