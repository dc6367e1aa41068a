-- `audit::Flowed::broken_net` meets its contract: no net before `n` breaks the rule, and `first` is where the pins of net `n` begin. Assumes nothing.
use Rattle.std.specs.Prelude.{None}
use Prim.Native.Nat.{◌*◌, ◌≤◌}
use mathlib.Core.Path.{◌≡◌}
use Rattle.book.specs.Format.{first_pin}
use Rattle.book.specs.First.{lowest}
use Rattle.audit.specs.Rules.{bad_net_flow}
use Rattle.audit.proofs.Flowed.broken_net.Given as goal

abbrev pub invariant-loop-n : goal.invariant-loop-n
invariant-loop-n l =
    (lowest (bad_net_flow l.self.netlist.bytes.now l.self.flow.now) l.n ≡ None) × (l.first ≡ first_pin l.self.netlist.bytes.now l.n) × (l.first ≤ 65536 * l.n)
