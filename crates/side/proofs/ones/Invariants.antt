-- `side::ones` meets its contract. The loop's invariant: the sum is the count of the modules in the bytes passed. Assumes nothing.
use mathlib.Core.Path.{◌≡◌}
use Prim.Native.Nat.{◌*◌}
use Rattle.side.proofs.Counts.{count_in}
use Rattle.side.proofs.ones.Given as goal

abbrev pub invariant-loop-i : goal.invariant-loop-i
invariant-loop-i l = (l.sum ≡ count_in 8 l.side (l.i * 8))
