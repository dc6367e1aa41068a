use Rattle.std.specs.Prelude.{ℕ, take}
use mathlib.Core.Path.{ap, ◌∙◌}
use native.Mathlib.Omega.{arith}
use Rattle.split.proofs.Loads.{sound_netlist}
use Rattle.split.proofs.Loaded.{below_loaded}
use Rattle.split.proofs.numbers.Numbers.board_with.Goals as goal

pub invariant_of-result-clause-tables : goal.invariant_of-result-clause-tables
invariant_of-result-clause-tables c = rw (c.nets-n.ensures, c.pins-p.ensures, c.modules-m.ensures, c.requires) c.args.self.now.tables

pub invariant_of-result-clause-below : goal.invariant_of-result-clause-below
invariant_of-result-clause-below c =
    let n = c.args.self.now in
    λ p l. omega (arith, below_loaded _ (sound_netlist n.netlist) _ (ap (λ (k : ℕ). take k n.arrays.mods) c.pins-p.ensures ∙ n.modules) p l, c.requires)

pub invariant_of-result-clause-light : goal.invariant_of-result-clause-light
invariant_of-result-clause-light c = rw c.nets-n.ensures c.args.self.now.light
