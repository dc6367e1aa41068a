-- `audit::Flowed::tally` meets its contract: the two lists are the tallies of the pins before `p`. Assumes nothing.
use mathlib.Core.Path.{◌≡◌, refl, ◌∙◌}
use native.Mathlib.Omega.{arith}
use Rattle.line.specs.Flow.{sent, taken}
use Rattle.book.specs.Format.{pins}
use Rattle.audit.proofs.Tallied.{room, tally_none, tally_more}
use Rattle.audit.proofs.Flows.{sound_netlist}
use Rattle.audit.proofs.Flowed.tally.Goals as goal

pub loop-p-init : goal.loop-p-init
loop-p-init c = (refl, refl, tally_none _ _ sent _ c.requires.0, tally_none _ _ taken _ c.requires.1)

pub add-requires : goal.add-requires
add-requires c =
    let r = room _ _ sent (sound_netlist c.args.self.netlist) c.loop-p.p _ c.loop-p.invariant.2 (omega arith) _ c.pin-m.ensures.0 in (r.0, r.1, c.sent_at.ensures.1)

pub add-requires-in-loop-p : goal.add-requires-in-loop-p
add-requires-in-loop-p c =
    let r = room _ _ taken (sound_netlist c.args.self.netlist) c.loop-p.p _ c.loop-p.invariant.3 (omega arith) _ c.pin-m.ensures.0 in (r.0, r.1, c.taken_at.ensures.1)

pub loop-p-preserved : goal.loop-p-preserved
loop-p-preserved c =
    let h = (sound_netlist c.args.self.netlist) in
    let i = c.loop-p in
    let m = c.pin-m in
    let x = c.sent_at in
    let y = c.taken_at in
    let a = tally_more _ _ sent h i.p _ i.invariant.2 (omega arith) _ m.ensures.0 _ x.ensures.0 x.ensures.1 _ c.add.ensures in
    let b = tally_more _ _ taken h i.p _ i.invariant.3 (omega arith) _ m.ensures.0 _ y.ensures.0 y.ensures.1 _ c.add-in-loop-p.ensures in
    (a.0 ∙ i.invariant.0, b.0 ∙ i.invariant.1, a.1, b.1)

pub shape_of-sends : goal.shape_of-sends
shape_of-sends c = c.loop-p.invariant.0

pub shape_of-takes : goal.shape_of-takes
shape_of-takes c = c.loop-p.invariant.1

pub returns : goal.returns
returns c =
    let e : c.loop-p.p ≡ pins c.args.self.netlist.bytes.now = omega arith in
    rw (← e) (c.loop-p.invariant.2, c.loop-p.invariant.3)
