-- The flow stays steady and the way a thread, of which `u` is the end.
use Rattle.std.proofs.Common.{length, arith}
use Rattle.climb.proofs.Threads.{thread_start, thread_end}
use Rattle.climb.proofs.climb.try_meter.Goals as goal
use Rattle.climb.proofs.climb.try_meter.Goals.{in-Some, in_default+else-land-u-eq1}

pub loop-init : goal.loop-init
loop-init c =
    let args = c.args in
    let pre = c.requires in
    (pre.0, (thread_start args.land.now.board args.how.now args.seen.now args.s c.pack.result pre.2 pre.1.how pre.3 pre.4 (omega (arith, c.pack.ensures)), pre.1.seen))

pub loop-preserved : goal.loop-preserved
loop-preserved c =
    let steady = c.loop.invariant.0 in
    elim c.match-step.branch [
      | in-Some w ↦ rw (w.sums-is, w.flow-is, w.how-is, w.seen-is, w.u-is) w.deliver-u.ensures
      | in_default+else-land-u-eq1 w ↦ rw (w.sums-is, w.flow-is, w.how-is, w.seen-is, w.u-is) (steady, w.leave-u.ensures.0)
    ]

pub returns : goal.returns
returns c =
    let b = c.args.land.now.board in
    let back = c.back-end in
    (c.loop.invariant.0, thread_end b.mods.now b.nets.now b.mark.now back.new.how back.new.seen (length b.weight.now) back.result back.ensures.0.0 back.ensures.1)
