-- `audit::meter_sum` meets its contract: the sum is that of the meter modules before `m`. Assumes nothing.
use Prim.Native.Nat.{ℕ, ◌+◌}
use mathlib.Core.Path.{ap, ap₂, sym, ◌∙◌}
use native.Mathlib.Omega.{arith}
use Rattle.audit.specs.Tallies.{meters_to}
use Rattle.audit.proofs.Totals.{sum_none, sum_next}
use Rattle.audit.proofs.meter_sum.Goals as goal

pub loop-m-init : goal.loop-m-init
loop-m-init c = (sum_none _, omega arith)

pub loop-m-preserved : goal.loop-m-preserved
loop-m-preserved c =
    let i = c.loop-m in
    (ap₂ (λ (x y : ℕ). x + y) i.invariant.0 c.meter_at-sum.ensures.0 ∙ sym (sum_next _ i.m), omega arith)

pub returns : goal.returns
returns c =
    let a = c.args in
    c.loop-m.invariant.0 ∙ ap (meters_to a.netlist.bytes.now a.sums.now) (omega arith)
