use Rattle.split.proofs.Fills.{filled_by}
use Rattle.book.specs.Format.{pin}
use mathlib.Core.Path.{◌∙◌}
use borrow.Author.Rules.{rules}
use Rattle.split.proofs.load.mods.Goals as goal

pub returns : goal.returns
returns c = filled_by (pin c.args.netlist.bytes.now) _ _ _ (λ i x h. search rules) c.fill_by.ensures (c.fill_by.auto.out ∙ c.requires)
