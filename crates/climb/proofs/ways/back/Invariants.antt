-- `climb::ways::back` meets its contract: the way ends at `u`; the measure is the rank of `u`. Assumes nothing.
use mathlib.Core.Path.{◌≡◌}
use lib.ListN.{length, get_or}
use Rattle.flow.specs.Search.{rank}
use Rattle.climb.specs.Climb.{WayTo}
use Rattle.climb.proofs.ways.back.Given as goal

abbrev pub invariant-loop-u : goal.invariant-loop-u
invariant-loop-u l =
    WayTo l.board l.how l.seen l.u × (length l.how ≡ length l.initial.how)

abbrev pub decreases-loop-u : goal.decreases-loop-u
decreases-loop-u l =
    rank (get_or l.how l.u 0)
