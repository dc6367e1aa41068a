-- `walk::finish::whole_area` meets its contract: `sum` is the area of the modules below `m`. Assumes nothing.
use Rattle.std.specs.Prelude.{◌≡◌, ◌*◌, ◌≤◌, true}
use Rattle.side.specs.Prices.{most_number}
use Rattle.book.specs.Format.{area}
use Rattle.line.specs.Card.{area_to}
use Rattle.walk.proofs.finish.whole_area.Given as goal

abbrev pub invariant-loop-m : goal.invariant-loop-m
invariant-loop-m l =
    (l.sum ≡ area_to (area l.netlist.bytes.now) (λ m. true) l.m) × (l.sum ≤ most_number * l.m)
