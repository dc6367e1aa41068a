-- `flow::push::Ways::push` meets its contract: what is still to be pushed from `u` on is what was to come (`OnWay`); the measure is the rank of `u`. Assumes nothing.
use mathlib.Core.Path.{◌≡◌, sym, ap, ◌∙◌, subst}
use Prim.Native.Nat.{ℕ}
use lib.ListN.{get_or}
use Rattle.flow.specs.Search.{In, left}
use Rattle.flow.proofs.PushLaws.{way_step, way_done, rest_pushable}
use Rattle.flow.proofs.push.Ways.push.Goals as goal

pub push_step-requires : goal.push_step-requires
push_step-requires c =
    let s = c.args.self.now in
    let pre = c.requires in
    let loop = c.loop-u in
    let way = loop.invariant.1 pre.0 pre.1 pre.2 in
    rest_pushable pre.0 s.mods.now s.nets.now s.mark.now s.how.now pre.1 loop.sums loop.flow c.args.d way.0 loop.u way.1.0 c.loop-u-test.true pre.3

pub loop-u-preserved : goal.loop-u-preserved
loop-u-preserved c =
    let s = c.args.self.now in
    let args = c.args in
    let pre = c.requires in
    let loop = c.loop-u in
    let to : c.from-u.result ≡ get_or s.mods.now (left (get_or s.how.now loop.u 0)) 0 = c.from-u.ensures ∙ ap (λ (i : ℕ). get_or s.mods.now i 0) c.left_pin.ensures in
    (subst (λ (u : ℕ). In s.how.now u) (sym to) (pre.1.trail.step loop.u loop.invariant.0 c.loop-u-test.true).from, way_step s.mods.now s.nets.now s.mark.now s.how.now args.sums.now args.flow.now args.d args.z loop.sums loop.flow loop.u loop.invariant.1 c.loop-u-test.true pre.3 c.push_step.ensures.0 c.push_step.ensures.1 to)

pub returns : goal.returns
returns c =
    let s = c.args.self.now in
    let loop = c.loop-u in
    way_done s.mods.now s.nets.now s.mark.now s.how.now c.args.sums.now c.args.flow.now c.args.d c.args.z loop.sums loop.flow loop.u loop.invariant.1 c.loop-u-test.false
