-- The best step so far is one onward.
use Rattle.std.proofs.Common.{IfSome}
use Rattle.climb.specs.Climb.{Ahead}
use Rattle.climb.proofs.onward.widest.Given as goal

abbrev pub invariant-loop-i : goal.invariant-loop-i
invariant-loop-i l =
    IfSome l.best (λ x. Ahead l.sight.load.land.now.board l.sight.how.now l.sight.seen.now l.u l.rank x)
