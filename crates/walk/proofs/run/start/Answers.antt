-- `walk::run::start` meets its contract: the marks are the book's. Assumes nothing.
use mathlib.Core.Path.{sym, ◌∙◌}
use lib.Seq.{length-take-le}
use native.Mathlib.Omega.{arith}
use Rattle.split.proofs.Loads.{few_modules}
use Rattle.walk.proofs.run.start.Goals as goal

pub slice_bounds-marks-end-2 : goal.slice_bounds-marks-end-2
slice_bounds-marks-end-2 c = sym (length-take-le _ _ (omega (arith, c.modules-m.ensures, few_modules c.args.netlist)))

pub marks-requires : goal.marks-requires
marks-requires c = length-take-le _ _ (omega (arith, c.modules-m.ensures, few_modules c.args.netlist)) ∙ c.modules-m.ensures
