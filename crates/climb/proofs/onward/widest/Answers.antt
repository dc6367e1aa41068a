-- Each pin looked at is one of `u`, and the room of a step onward is read inside the board.
use Rattle.std.proofs.Common.{rules, arith}
use Rattle.flow.specs.Search.{left}
use Rattle.flow.proofs.BoardLaws.{tables_of}
use Rattle.climb.specs.Climb.{Onward}
use Rattle.climb.proofs.onward.widest.Goals as goal

pub leave_by-step-requires : goal.leave_by-step-requires
leave_by-step-requires c =
    let pre = c.requires in
    let own = (tables_of c.args.sight.now.load.land.now.board).own c.args.u c.loop-i.i pre.0 (record { low = omega arith; high = omega arith }) in
    (own.0, own.1, pre.1, pre.2, pre.3)

pub step_room-room-requires : goal.step_room-room-requires
step_room-room-requires c =
    let b = c.args.sight.now.load.land.now.board in
    let v = c.args.sight.now.load.level in
    let o : Onward b.mods.now b.nets.now b.mark.now c.args.sight.now.how.now c.args.sight.now.seen.now c.args.u c.args.rank c.in-Some.x = search rules in
    let t = tables_of b in
    let net = (t.net (left c.in-Some.x) o.in_left).0 in
    (omega (arith, o.in_left, v.flows), omega (arith, o.in_entered, v.flows), omega (arith, t.counts, v.flows), omega (arith, b.few, v.flows), net, v.sums, v.below _ net, (v.small _ o.in_left).taken)
