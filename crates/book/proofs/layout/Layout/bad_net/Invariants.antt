-- `book::Layout::bad_net` meets its contract: no net before `n` is bad, and `sum` is where the pins of net `n` begin. Assumes nothing.
use Rattle.std.specs.Prelude.{None}
use Prim.Native.Nat.{◌≤◌, ◌*◌}
use mathlib.Core.Path.{◌≡◌}
use Rattle.book.specs.First.{lowest}
use Rattle.book.specs.Format.{first_pin}
use Rattle.book.specs.Checks.{bad_net}
use Rattle.book.proofs.layout.Layout.bad_net.Given as goal

abbrev pub invariant-loop-n : goal.invariant-loop-n
invariant-loop-n l =
    (lowest (bad_net l.self.bytes.now) l.n ≡ None) × (l.sum ≡ first_pin l.self.bytes.now l.n) × (l.sum ≤ 65536 * l.n)
