-- `audit::meter_sum` meets its contract: the sum is that of the meter modules before `m`. Assumes nothing.
use Prim.Native.Nat.{◌*◌, ◌≤◌}
use mathlib.Core.Path.{◌≡◌}
use Rattle.book.specs.Checks.{most_pins}
use Rattle.audit.specs.Rules.{most_sent}
use Rattle.audit.specs.Tallies.{meters_to}
use Rattle.audit.proofs.meter_sum.Given as goal

abbrev pub invariant-loop-m : goal.invariant-loop-m
invariant-loop-m l =
    (l.sum ≡ meters_to l.netlist.bytes.now l.sums l.m) × (l.sum ≤ most_sent * most_pins * l.m)
