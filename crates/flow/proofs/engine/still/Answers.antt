-- `flow::engine::still` meets its contract. Assumes nothing.
use mathlib.Core.Path.{sym, subst}
use Rattle.line.proofs.Search.{Still, still_replicate}
use Rattle.flow.proofs.engine.still.Goals as goal

pub returns : goal.returns
returns c = subst Still (sym (c.fill.ensures.after (λ y e. e))) (still_replicate _)
