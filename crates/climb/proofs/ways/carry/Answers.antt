-- `climb::ways::carry` meets its contract: the push leaves the flow steady, and mending leaves the flow alone. Assumes nothing.
use Rattle.climb.proofs.Routes.{thread_level, thread_carries, thread_carried}
use Rattle.climb.proofs.ways.carry.Goals as goal

pub push_from-n-requires : goal.push_from-n-requires
push_from-n-requires c =
    let pre = c.requires in
    thread_carries c.args.land.now.board c.args.land.now.guided pre.1.0 c.args.sums.now c.args.flow.now pre.0 pre.2

pub returns-then-n-rank_of : goal.returns-then-n-rank_of
returns-then-n-rank_of c =
    let pre = c.requires in
    (thread_carried c.args.land.now.board c.args.land.now.guided pre.1.0 c.args.sums.now c.args.flow.now pre.0 pre.2 c.push_from-n.ensures.1, pre.1)

pub invariant_of-load : goal.invariant_of-load
invariant_of-load c =
    let b = c.args.land.now.board in
    let pre = c.requires in
    record { level = thread_level b c.args.land.now.guided pre.1.0 _ _ (thread_carried b c.args.land.now.guided pre.1.0 c.args.sums.now c.args.flow.now pre.0 pre.2 c.push_from-n.ensures.1) }

pub returns-then-mended : goal.returns-then-mended
returns-then-mended c =
    let pre = c.requires in
    (thread_carried c.args.land.now.board c.args.land.now.guided pre.1.0 c.args.sums.now c.args.flow.now pre.0 pre.2 c.push_from-n.ensures.1, c.mend-mended.ensures)

pub returns-else-mended : goal.returns-else-mended
returns-else-mended c =
    let pre = c.requires in
    (thread_carried c.args.land.now.board c.args.land.now.guided pre.1.0 c.args.sums.now c.args.flow.now pre.0 pre.2 c.push_from-n.ensures.1, c.mend-mended.ensures)
