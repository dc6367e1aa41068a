-- `split::numbers::build_fronts` meets its contract: the fronts of the arrays are the book's numbers. Assumes nothing.
use Rattle.std.specs.Prelude.{ℕ, ◌+◌, take}
use mathlib.Core.Path.{sym, ap, ◌∙◌}
use lib.Seq.{length-take-le}
use native.Mathlib.Omega.{arith}
use Rattle.split.proofs.Loads.{sound_netlist, few_modules, few_pins}
use Rattle.split.proofs.Loaded.{marks_of, buildable, tables_built}
use Rattle.split.proofs.numbers.build_fronts.Goals as goal

pub build-requires : goal.build-requires
build-requires c =
    let s = c.args.netlist in (
      marks_of s.bytes.now,
      buildable _ (sound_netlist s) _ _ _ _ _ _
          (ap (λ (k : ℕ). take (k + 1) c.args.first.now) c.nets-n.ensures ∙ c.requires.0)
          (ap (λ (k : ℕ). take k c.args.mods.now) c.pins-p.ensures ∙ c.requires.1)
          (ap (λ (k : ℕ). take k c.args.weight.now) c.nets-n.ensures ∙ c.requires.2)
          (length-take-le _ _ (omega (arith, c.pins-p.ensures, few_pins s)) ∙ c.pins-p.ensures)
          (length-take-le _ _ (omega (arith, c.modules.ensures, few_modules s)) ∙ ap (λ (k : ℕ). k + 1) c.modules.ensures)
          (length-take-le _ _ (omega (arith, c.pins-p.ensures, few_pins s)) ∙ c.pins-p.ensures),
    )

pub returns : goal.returns
returns c =
    let s = c.args.netlist in
    ∣ tables_built _ (sound_netlist s) _ _ _ _ _ _
    (ap (λ (k : ℕ). take (k + 1) c.args.first.now) c.nets-n.ensures ∙ c.requires.0)
    (ap (λ (k : ℕ). take k c.args.mods.now) c.pins-p.ensures ∙ c.requires.1)
    (ap (λ (k : ℕ). take k c.args.weight.now) c.nets-n.ensures ∙ c.requires.2)
    (length-take-le _ _ (omega (arith, c.pins-p.ensures, few_pins s)) ∙ c.pins-p.ensures)
    (length-take-le _ _ (omega (arith, c.modules.ensures, few_modules s)) ∙ ap (λ (k : ℕ). k + 1) c.modules.ensures)
    (length-take-le _ _ (omega (arith, c.pins-p.ensures, few_pins s)) ∙ c.pins-p.ensures)
    _ _ _ _ _ _ _ _ _
    (ap (λ (k : ℕ). take (k + 1) c.args.first.now) (sym c.nets-n.ensures))
    (ap (λ (k : ℕ). take k c.args.mods.now) (sym c.pins-p.ensures))
    (ap (λ (k : ℕ). take k c.args.weight.now) (sym c.nets-n.ensures))
    c.build.auto.nets c.build.auto.at c.build.auto.pins c.build.ensures ∣₁
