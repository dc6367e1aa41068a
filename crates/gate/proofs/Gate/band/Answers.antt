-- `Gate::band` meets its contract: at each arm the gate is that arm's case, where `band_of` computes. Assumes nothing.
use mathlib.Core.Path.{sym, ap, ◌∙◌}
use lib.Ieee.{of_bits}
use Rattle.gate.specs.declared.Gate.{Gate}
use Rattle.gate.specs.Gates.{band_of}
use Rattle.gate.proofs.Gate.band.Goals as goal

pub returns-in-Open : goal.returns-in-Open
unfolding of_bits
returns-in-Open c = sym (ap (λ (g : Gate). band_of g c.args.w) c.in-Open.is)

-- a band is its two ends
pub returns-in-Share : goal.returns-in-Share
returns-in-Share c =
    let p = c.share_band.ensures in
    (λ i. record { low = p.0 i; high = p.1 i }) ∙ sym (ap (λ (g : Gate). band_of g c.args.w) c.in-Share.is)

pub returns-in-Bounds : goal.returns-in-Bounds
returns-in-Bounds c = sym (ap (λ (g : Gate). band_of g c.args.w) c.in-Bounds.is)
