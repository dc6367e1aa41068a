-- `climb::ways::enter` meets its contract. Assumes nothing.
use Rattle.std.proofs.Common.{length, ◌∙◌}
use Rattle.climb.proofs.Boards.{nets_of}
use Rattle.climb.proofs.Threads.{thread_entered}
use Rattle.climb.proofs.ways.enter.Goals as goal

pub returns : goal.returns
returns c =
    let b = c.args.land.now.board in
    let put = c.put_step.ensures in
    (thread_entered b.mods.now b.nets.now b.mark.now c.args.how.now c.args.seen.now (length b.weight.now) c.args.u c.args.x c.requires.0.0 c.requires.1 b.below (nets_of b) put.0 put.1 put.2 put.3 c.requires.0.1, c.put_step.auto.seen ∙ c.requires.0.1)
