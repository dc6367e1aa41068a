-- `flow::push::push_makers` meets its contract: the makers below `z` have been pushed from (`Rounded`). Assumes nothing.
use mathlib.Core.Path.{◌≡◌, subst}
use Prim.Native.Nat.{ℕ}
use native.Mathlib.Omega.{arith}
use lib.ListN.{length}
use Rattle.flow.specs.Raise.{Rounded}
use Rattle.flow.proofs.RaiseLaws.{round_skip, round_push}
use Rattle.flow.proofs.push.push_makers.Goals as goal
use Rattle.flow.proofs.push.push_makers.Goals.{then-mark-eq2+then-ways-z-ne0, else-mark-eq2, else-mark-eq2-via-then-mark-eq2+else-ways-z-ne0, else-mark-eq2-via-else-mark-eq2}

pub loop-z-preserved : goal.loop-z-preserved
loop-z-preserved c =
    let s = c.args.ways.now in
    let loop = c.loop-z in
    let skip = round_skip s.mods.now s.weight.now s.nets.now s.mark.now s.how.now c.args.sums.now c.args.flow.now loop.z loop.any loop.sums loop.flow loop.invariant in
    elim c.if-mark-eq2.branch [
      | then-mark-eq2+then-ways-z-ne0 w ↦ rw (w.sums-is, w.flow-is, w.any-is) (round_push s.mods.now s.weight.now s.nets.now s.mark.now s.how.now c.args.sums.now c.args.flow.now loop.z loop.any loop.sums loop.flow loop.invariant _ _ c.loop-z-test.true w.if-mark-eq2.true (let n = w.if-ways-z-ne0.true in omega arith) w.push_from.ensures.1)
      | else-mark-eq2 w ↦ rw (w.sums-is, w.flow-is, w.any-is)
          (skip (λ e h. elim w.else-mark-eq2.branch [
            | else-mark-eq2-via-then-mark-eq2+else-ways-z-ne0 v ↦ let n = v.if-ways-z-ne0.false in absurd (omega arith)
            | else-mark-eq2-via-else-mark-eq2 v ↦ v.if-mark-eq2.false e
          ]))
    ]

pub returns : goal.returns
returns c =
    let s = c.args.ways.now in
    let loop = c.loop-z in
    let e : loop.z ≡ length s.mark.now = omega arith in
    subst (λ (i : ℕ). Rounded s.mods.now s.weight.now s.nets.now s.mark.now s.how.now c.args.sums.now c.args.flow.now i loop.any loop.sums loop.flow) e loop.invariant
