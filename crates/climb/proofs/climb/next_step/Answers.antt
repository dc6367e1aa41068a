-- The flow of a way is level, and the module reached last is one.
use Rattle.climb.proofs.Routes.{thread_level}
use Rattle.climb.proofs.Threads.{tip_below}
use Rattle.climb.proofs.climb.next_step.Goals as goal

pub invariant_of-load : goal.invariant_of-load
invariant_of-load c =
    let land = c.args.land.now in
    let pre = c.requires in
    record { level = thread_level land.board land.guided pre.1.0 c.args.sums.now c.args.flow.now pre.0 }

pub invariant_of-sight : goal.invariant_of-sight
invariant_of-sight c = record { sized = record { how = c.requires.1.0.trail.lenw; seen = c.requires.1.1 } }

pub onward-requires : goal.onward-requires
onward-requires c = tip_below c.requires.1.0
