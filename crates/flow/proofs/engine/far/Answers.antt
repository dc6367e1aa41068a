-- `flow::engine::far` meets its contract. Assumes nothing.
use Rattle.flow.proofs.BoardLaws.{tables_of}
use Rattle.flow.proofs.WholeLaws.{far_of}
use Rattle.flow.proofs.engine.far.Goals as goal

pub returns : goal.returns
returns c =
    let b = c.args.board.now in
    far_of _ _ _ _ _ _ _ c.requires.0.laid (tables_of b) b.few _ _ c.requires.1 _ c.search.ensures
