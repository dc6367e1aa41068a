use Rattle.std.specs.Prelude.{ℕ, ◌<◌, slice_get, IfSome}
use Rattle.split.proofs.load.fill_by.Given as goal

abbrev pub invariant-loop-i : goal.invariant-loop-i
invariant-loop-i g l =
    (k : ℕ) → k < l.i → IfSome (slice_get l.out k) (goal.F-post g l.at k)
