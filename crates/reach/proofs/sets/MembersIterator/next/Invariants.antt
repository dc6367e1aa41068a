-- The words after `at` are fewer each time, and no member comes twice.
use Rattle.std.proofs.Common.{◌+◌, ◌-◌, ◌*◌, ◌^◌, ◌≤◌, ◌<◌}
use Rattle.reach.proofs.sets.MembersIterator.next.Given as goal

abbrev pub invariant-loop-self : goal.invariant-loop-self
invariant-loop-self g l =
    (l.self.at < g.row.N) × (64 * g.row.N < 2 ^ 64) × ((g.row.N - l.self.at) * 2 ^ 64 + l.self.rest ≤ (g.row.N - l.initial.self.at) * 2 ^ 64 + l.initial.self.rest)

abbrev pub decreases-loop-self : goal.decreases-loop-self
decreases-loop-self g l =
    g.row.N - l.self.at
