-- `walk::rows::put_row` meets its contract: four numbers, one after the other. Assumes nothing.
use Rattle.walk.proofs.Bytes.{two_bytes, four_bytes, row-bytes}
use Rattle.walk.specs.Parts.{over_at}
use Rattle.walk.specs.Call.{little_endian}
use Rattle.std.specs.Prelude.{ℕ, ◌+◌, List}
use mathlib.Core.Path.{ap, ◌∙◌}
use Rattle.walk.proofs.rows.put_row.Goals as goal

pub returns : goal.returns
returns c =
    let a = c.args in
    row-bytes a.out.now c.put.new.out c.put-2.new.out c.put-3.new.out c.put-4.new.out a.at a.row c.requires
    (c.put.ensures ∙ ap (λ (b : List ℕ). over_at a.at b a.out.now) (c.to_le_bytes.ensures ∙ four_bytes a.row.price))
    (c.put-2.ensures ∙ ap (λ (b : List ℕ). over_at (a.at + 4) b c.put.new.out) (c.to_le_bytes-2.ensures ∙ four_bytes a.row.area))
    (c.put-3.ensures ∙ ap (λ (b : List ℕ). over_at (a.at + 8) b c.put-2.new.out) (c.to_le_bytes-3.ensures ∙ two_bytes c.taken.result ∙ ap (little_endian 2) c.taken.ensures))
    (c.put-4.ensures ∙ ap (λ (b : List ℕ). over_at (a.at + 10) b c.put-3.new.out) (c.to_le_bytes-4.ensures ∙ two_bytes c.way.result ∙ ap (little_endian 2) c.way.ensures))
