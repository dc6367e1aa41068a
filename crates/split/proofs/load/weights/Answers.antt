use Rattle.split.proofs.Fills.{filled_by, each_below}
use Rattle.book.specs.Format.{weight}
use mathlib.Core.Path.{◌∙◌}
use native.Mathlib.Omega.{arith}
use borrow.Author.Rules.{rules}
use Rattle.split.proofs.load.weights.Goals as goal

pub returns : goal.returns
returns c = (filled_by (weight c.args.netlist.bytes.now) _ _ _ (λ i x h. search rules) c.fill_by.ensures (c.fill_by.auto.out ∙ c.requires), each_below _ _ 65536 (omega arith) (λ i x h. search rules) c.fill_by.ensures)
