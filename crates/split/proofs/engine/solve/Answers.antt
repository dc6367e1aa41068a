use Rattle.book.specs.Checks.{most_modules}
use lib.Seq.{length-take-le}
use Rattle.std.specs.Prelude.{◌≡◌, ℕ, ◌+◌, ◌≤◌, length}
use mathlib.Core.Path.{sym}
use native.Mathlib.Omega.{arith}
use Rattle.split.proofs.engine.solve.Goals as goal

no_less : (a b : ℕ) → a ≡ b → b ≤ a
no_less a b e = omega arith

pub slice_bounds-solve_tabled-end : goal.slice_bounds-solve_tabled-end
slice_bounds-solve_tabled-end c = sym (length-take-le _ _ c.requires.0.few_pins)

pub slice_bounds-solve_tabled-end-2 : goal.slice_bounds-solve_tabled-end-2
slice_bounds-solve_tabled-end-2 c = let h : length c.args.mark.now + 1 ≤ most_modules + 1 = omega (arith, c.requires.0.few_modules) in sym (length-take-le _ _ h)

pub slice_bounds-solve_tabled-end-3 : goal.slice_bounds-solve_tabled-end-3
slice_bounds-solve_tabled-end-3 c = sym (length-take-le _ _ c.requires.0.few_pins)

pub solve_tabled-requires : goal.solve_tabled-requires
solve_tabled-requires c = let h : length c.args.mark.now + 1 ≤ most_modules + 1 = omega (arith, c.requires.0.few_modules) in
    (c.requires.0, record { laid = c.requires.0.laid; pins = omega (arith, c.requires.0.few_pins); nets = omega (arith, c.requires.0.few_nets); named = length-take-le _ _ c.requires.0.few_pins; starts = length-take-le _ _ h; placed = no_less _ _ (length-take-le _ _ c.requires.0.few_pins) }, c.requires.1)
