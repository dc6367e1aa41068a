-- `walk::choose::free_count` meets its contract: `sum` is how many modules below `m` are free. Assumes nothing.
use Rattle.walk.specs.Walk.{free_to}
use Rattle.book.specs.Format.{mark}
use Rattle.std.specs.Prelude.{◌≡◌, ◌≤◌}
use Rattle.walk.proofs.choose.free_count.Given as goal

abbrev pub invariant-loop-m : goal.invariant-loop-m
invariant-loop-m l =
    (l.sum ≡ free_to (mark l.netlist.bytes.now) l.m) × (l.sum ≤ l.m)
