-- `audit::meter_at` meets its contract. Assumes nothing.
use Rattle.std.specs.Prelude.{ℕ, Bool, cond, eqb, get_or}
use mathlib.Core.Path.{ap, ◌∙◌}
use native.Mathlib.Omega.{arith}
use Rattle.audit.proofs.meter_at.Goals as goal

pub returns : goal.returns
returns c =
    let few = c.requires.0.fits c.args.m c.requires.1 in
    let on = c.is_meter.ensures ∙ ap (λ (n : ℕ). eqb n 1) c.mark.ensures in
    (c.if_on.ensures.0 ∙ ap (λ (t : Bool). cond t (get_or c.args.sums.now c.args.m 0) 0) on, omega arith)
