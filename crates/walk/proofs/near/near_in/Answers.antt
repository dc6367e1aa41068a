-- `walk::near::near_in` meets its contract: what the engine reached is written as a row of bits. Assumes nothing.
use Rattle.walk.proofs.Steps.{near_row}
use mathlib.Core.Path.{◌∙◌}
use Rattle.walk.proofs.near.near_in.Goals as goal

pub returns : goal.returns
returns c =
    let a = c.args in
    let p = c.requires in
    let raise' = c.raise in
    let write-side' = c.write_side in
    let b = a.board.now in
    near_row b.first.now b.mods.now b.weight.now b.mark.now p.0.laid _ _ a.x.now _ _ (raise'.auto.how ∙ p.0.how) raise'.ensures write-side'.ensures
