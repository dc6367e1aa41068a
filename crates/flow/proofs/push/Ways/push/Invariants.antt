-- `flow::push::Ways::push` meets its contract: what is still to be pushed from `u` on is what was to come (`OnWay`); the measure is the rank of `u`. Assumes nothing.
use lib.ListN.{get_or}
use Rattle.flow.specs.Search.{In, rank}
use Rattle.flow.proofs.PushLaws.{OnWay}
use Rattle.flow.proofs.push.Ways.push.Given as goal

abbrev pub invariant-loop-u : goal.invariant-loop-u
invariant-loop-u l =
    let s = l.self in
    In s.how.now l.u × OnWay s.mods.now s.nets.now s.mark.now s.how.now l.initial.sums l.initial.flow l.d l.z l.sums l.flow l.u

abbrev pub decreases-loop-u : goal.decreases-loop-u
decreases-loop-u l =
    rank (get_or l.self.how.now l.u 0)
