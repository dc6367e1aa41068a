-- `flow::push::Ways::room` meets its contract: `n.room` and the room from `u` on are the room of the whole way; the measure is the rank of `u`. Assumes nothing.
use mathlib.Core.Path.{◌≡◌, sym, ap, ap₂, ◌∙◌, subst}
use Prim.Native.Nat.{ℕ, suc, min, ◌<◌}
use native.Mathlib.Omega.{arith}
use lib.ListN.{length, get_or}
use Rattle.flow.specs.Push.{way_room}
use Rattle.flow.specs.Search.{In, rank, left}
use Rattle.flow.proofs.PushLaws.{least_top, way_more, way_end}
use Rattle.flow.proofs.push.Ways.room.Goals as goal

pub loop-u-init : goal.loop-u-init
loop-u-init c =
    let s = c.args.self.now in
    let pre = c.requires in
    (pre.2, omega arith, (suc (length s.mark.now), omega (arith, pre.0.ranks c.args.z pre.2), least_top _ _ _ _ _ _ _ _ _))

pub loop-u-preserved : goal.loop-u-preserved
loop-u-preserved c =
    let s = c.args.self.now in
    let args = c.args in
    let loop = c.loop-u in
    let trod = c.requires.0.step loop.u loop.invariant.0 c.loop-u-test.true in
    let to : c.from-u.result ≡ get_or s.mods.now (left (get_or s.how.now loop.u 0)) 0 = c.from-u.ensures ∙ ap (λ (i : ℕ). get_or s.mods.now i 0) c.left_pin.ensures in
    let n = way_more s.mods.now s.weight.now s.nets.now s.mark.now s.how.now args.sums.now args.flow.now loop.invariant.2.0 loop.n.room loop.u _ loop.invariant.2.1 c.loop-u-test.true trod.lower loop.invariant.2.2 in (
      subst (λ (u : ℕ). In s.how.now u) (sym to) trod.from,
      omega (arith, c.narrower-n.ensures, loop.invariant.1),
      (
        n.0,
        subst (λ (u : ℕ). rank (get_or s.how.now u 0) < n.0) (sym to) n.1,
        ap₂ (λ (d u : ℕ). min d (way_room s.mods.now s.weight.now s.nets.now s.mark.now s.how.now args.sums.now args.flow.now n.0 u)) (c.narrower-n.ensures ∙ ap (λ (r : ℕ). min loop.n.room r) c.step_room.ensures) to ∙ n.2,
      ),
    )

pub returns : goal.returns
returns c =
    let s = c.args.self.now in
    let loop = c.loop-u in
    way_end s.mods.now s.weight.now s.nets.now s.mark.now s.how.now c.args.sums.now c.args.flow.now loop.invariant.2.0 loop.n.room loop.u _ loop.invariant.2.1 c.loop-u-test.false loop.invariant.1 loop.invariant.2.2
