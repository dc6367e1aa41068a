-- `side::Sided::area` meets its contract: `sum` is the area of the modules before `m`. Assumes nothing.
use Prim.Native.Nat.{◌*◌, ◌≤◌}
use mathlib.Core.Path.{◌≡◌}
use Rattle.line.specs.Card.{area_to}
use Rattle.book.specs.Format.{area}
use Rattle.side.specs.Sides.{side_of}
use Rattle.side.specs.Prices.{most_number}
use Rattle.side.proofs.Sided.area.Given as goal

abbrev pub invariant-loop-m : goal.invariant-loop-m
invariant-loop-m l = (l.sum ≡ area_to (area l.self.netlist.bytes.now) (side_of l.self.bits.now) l.m) × (l.sum ≤ most_number * l.m)
