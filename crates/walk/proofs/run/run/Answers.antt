-- `walk::run::run` meets its contract: the numbers are the book's. Assumes nothing.
use Rattle.std.specs.Prelude.{◌≤◌, List, ℕ, length}
use denote.Bor.{Bor}
use mathlib.Core.Path.{sym, ap, subst, ◌∙◌}
use lib.Seq.{length-take-le}
use native.Mathlib.Omega.{arith}
use Rattle.book.specs.Format.{pins}
use Rattle.split.proofs.Loads.{few_pins}
use Rattle.walk.specs.Call.{room_for}
use Rattle.walk.proofs.run.run.Goals as goal

pub slice_bounds-run_on-end : goal.slice_bounds-run_on-end
slice_bounds-run_on-end c = sym (length-take-le _ _ (omega (arith, c.pins-p.ensures, few_pins c.args.netlist)))

pub run_on-requires : goal.run_on-requires
run_on-requires c =
    let e = sym c.of-numbers.ensures in
    (length-take-le _ _ (omega (arith, c.pins-p.ensures, few_pins c.args.netlist)) ∙ c.pins-p.ensures ∙ ap (λ (b : Bor (List ℕ)). pins b.now) e, subst (λ (b : Bor (List ℕ)). room_for b.now ≤ length c.args.rows.now) e c.requires)
