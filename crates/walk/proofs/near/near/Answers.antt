-- `walk::near::near` meets its contract: the near side of the board is that of the book. Assumes nothing.
use Rattle.std.specs.Prelude.{List, ℕ}
use denote.Bor.{Bor}
use mathlib.Core.Path.{ap, ◌∙◌}
use Rattle.split.proofs.Loads.{sound_netlist}
use Rattle.walk.proofs.Steps.{near_room, near_lent}
use Rattle.walk.proofs.near.near.Goals as goal

pub near_on-requires : goal.near_on-requires
near_on-requires c =
    let n = c.args.numbers.now.netlist in
    let p = c.requires in
    let l = c.board_with-board.ensures in
    near_room n.bytes.now _ (sound_netlist n) p.0 _ l.0 (ap (λ (b : Bor (List ℕ)). b.now) l.1) _ _ c.still.ensures (c.still.auto.flow ∙ p.1) p.2

pub returns : goal.returns
returns c =
    let n = c.args.numbers.now.netlist in
    let l = c.board_with-board.ensures in
    near_lent n.bytes.now _ (sound_netlist n) c.requires.0 _ l.0 (ap (λ (b : Bor (List ℕ)). b.now) l.1) _ _ c.near_on.ensures
