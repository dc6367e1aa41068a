-- `book::Layout::bad_pin` meets its contract: no net before `n` has a bad pin, none of net `n` before `j` is bad, and `p` is the index of pin `j`
-- of net `n`. Assumes nothing.
use Rattle.std.specs.Prelude.{None}
use Prim.Native.Nat.{◌+◌}
use mathlib.Core.Path.{◌≡◌}
use Rattle.book.specs.First.{first, lowest}
use Rattle.book.specs.Format.{first_pin}
use Rattle.book.specs.Checks.{bad_pin_of, bad_pins}
use Rattle.book.proofs.layout.Layout.bad_pin.Given as goal

abbrev pub invariant-loop-j : goal.invariant-loop-j
invariant-loop-j l = (l.p ≡ first_pin l.self.bytes.now l.n + l.j) × (lowest (bad_pin_of l.self.bytes.now l.n) l.j ≡ None)

abbrev pub invariant-loop-n : goal.invariant-loop-n
invariant-loop-n l = (l.p ≡ first_pin l.self.bytes.now l.n) × (first (bad_pins l.self.bytes.now) l.n ≡ None)
