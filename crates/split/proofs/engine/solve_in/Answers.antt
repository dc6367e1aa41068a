use Rattle.split.proofs.Solves.{solved}
use mathlib.Core.Path.{◌∙◌}
use Rattle.split.proofs.engine.solve_in.Goals as goal

pub returns : goal.returns
returns c =
    let how = c.requires.0.how in
    solved c.args.board.now c.requires.0.laid _ _ _ _ c.args.near.now c.args.far.now _ _ (c.raise.auto.how ∙ how) (c.far.auto.how ∙ c.raise.auto.how ∙ how) c.raise.ensures c.write_side.ensures c.far.ensures c.write_side-2.ensures
