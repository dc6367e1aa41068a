-- `Gate::good` meets its contract: at each arm the gate is that arm's case, where `good_gate` computes to the code's tests. A constant is its bit pattern in the code, which `of_bits` reads.
-- Assumes nothing.
use mathlib.Core.Path.{sym, ap}
use lib.Ieee.{of_bits}
use Rattle.gate.specs.Gates.{good_gate}
use Rattle.gate.proofs.Gate.good.Goals as goal

pub returns-in-Share : goal.returns-in-Share
unfolding of_bits
returns-in-Share c = sym (ap good_gate c.in-Share.is)

pub returns-in-Bounds : goal.returns-in-Bounds
unfolding of_bits
returns-in-Bounds c = sym (ap good_gate c.in-Bounds.is)
