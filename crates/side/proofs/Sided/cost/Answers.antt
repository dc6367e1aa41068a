-- `side::Sided::cost` meets its contract. Assumes nothing.
use mathlib.Core.Path.{ap, ◌∙◌}
use mathlib.Core.Bool.{Bool, cond}
use Rattle.line.specs.Card.{cost}
use Rattle.book.specs.Format.{weight}
use Rattle.side.proofs.Sided.cost.Goals as goal

pub returns : goal.returns
unfolding cost
returns c = (c.weigh.ensures.0 ∙ ap (λ (t : Bool). cond t (weight c.args.self.netlist.bytes.now c.args.n) 0) c.crosses.ensures, c.weigh.ensures.1)
