-- `flow::push::push_from` meets its contract. Assumes nothing.
use native.Mathlib.Omega.{arith}
use Rattle.flow.proofs.RaiseLaws.{level_of, trail_of, carry_rest, carry_some, carry_none, way_most}
use Rattle.flow.proofs.push.push_from.Goals as goal

pub room-n-requires : goal.room-n-requires
room-n-requires c =
    let s = c.args.ways.now in
    let pre = c.requires in
    (trail_of pre.0 s.mods.now s.weight.now s.nets.now s.mark.now s.how.now pre.1 c.args.sums.now c.args.flow.now pre.3, level_of pre.0 s.mods.now s.weight.now s.nets.now s.mark.now s.how.now pre.1 c.args.sums.now c.args.flow.now pre.3, pre.2.from)

pub push-requires : goal.push-requires
push-requires c =
    let s = c.args.ways.now in
    let pre = c.requires in
    let room = c.room-n in
    (pre.0, pre.1.ground, carry_rest pre.0 s.mods.now s.weight.now s.nets.now s.mark.now s.how.now pre.1 c.args.sums.now c.args.flow.now pre.3 c.args.z pre.2 room.result.room room.ensures, way_most s.mods.now s.weight.now s.nets.now s.mark.now s.how.now c.args.sums.now c.args.flow.now c.args.z room.ensures)

pub returns-then-d-gt0 : goal.returns-then-d-gt0
returns-then-d-gt0 c =
    let s = c.args.ways.now in
    let room = c.room-n in
    (room.ensures, λ k f r t. carry_some k s.mods.now s.weight.now s.nets.now s.mark.now s.how.now f c.args.sums.now c.args.flow.now t c.args.z r room.result.room room.ensures _ _ c.push.ensures)

pub returns-else-d-gt0 : goal.returns-else-d-gt0
returns-else-d-gt0 c =
    let s = c.args.ways.now in
    let room = c.room-n in
    (room.ensures, λ k f r t. carry_none k s.mods.now s.weight.now s.nets.now s.mark.now s.how.now f c.args.sums.now c.args.flow.now t c.args.z r room.result.room room.ensures (λ l. absurd (omega (arith, c.if-d-gt0.false))))
