-- `climb::ways::swap` meets its contract: no rank changes. Assumes nothing.
use Rattle.std.proofs.Common.{length, ◌∙◌}
use Rattle.climb.proofs.Boards.{nets_of}
use Rattle.climb.proofs.Threads.{thread_swapped}
use Rattle.climb.proofs.ways.swap.Goals as goal

pub returns : goal.returns
returns c =
    let b = c.args.land.now.board in
    let pre = c.requires in
    let put = c.put_step.ensures in
    (thread_swapped b.mods.now b.nets.now b.mark.now c.args.how.now c.args.seen.now (length b.weight.now) c.args.z c.args.v c.args.x pre.0.0 pre.1 pre.2 pre.3.0 pre.3.1 (nets_of b) put.0 put.1 put.2 put.3 pre.0.1, c.put_step.auto.seen ∙ pre.0.1)
