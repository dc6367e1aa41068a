-- `side::Sided::price` meets its contract: `sum` is the price of the nets before `n`, and `first` the place of the first pin of net `n`. Assumes nothing.
use Prim.Native.Nat.{◌*◌, ◌≤◌}
use mathlib.Core.Path.{◌≡◌}
use lib.ListN.{take}
use Rattle.line.specs.Card.{price}
use Rattle.book.specs.Format.{first_pin}
use Rattle.book.specs.Cards.{nets_of}
use Rattle.side.specs.Sides.{side_of}
use Rattle.side.specs.Prices.{most_number}
use Rattle.side.proofs.Sided.price.Given as goal

abbrev pub invariant-loop-n : goal.invariant-loop-n
invariant-loop-n l =
    (l.sum ≡ price (take l.n (nets_of l.self.netlist.bytes.now)) (side_of l.self.bits.now)) × (l.sum ≤ most_number * l.n) × (l.first ≡ first_pin l.self.netlist.bytes.now l.n)
