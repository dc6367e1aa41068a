use Rattle.std.specs.Prelude.{◌≡◌, List, ℕ}
use denote.Bor.{Bor}
use mathlib.Core.Path.{subst, ◌∙◌}
use Rattle.book.specs.Cards.{card_of}
use Rattle.flow.specs.declared.board.Board.{Board}
use Rattle.split.specs.Boards.{Lends}
use Rattle.split.specs.Solved.{Solved}
use Rattle.split.proofs.Loaded.{marks_of, slices_lent, begins_lent, solved_lent}
use Rattle.split.proofs.Held.{solved_under, solved_price}
use Rattle.split.proofs.split_exact.Goals as goal
use Rattle.split.proofs.split_exact.Goals.{After-solve_on}

-- a board of a book's numbers is one of the book
lent : (n m : Bor (List ℕ)) (b : Board) → n ≡ m → Lends n.now b × (b.mark.now ≡ marks_of n.now) → Lends m.now b × (b.mark.now ≡ marks_of m.now)
lent n m b e = subst (λ (x : Bor (List ℕ)). Lends x.now b × (b.mark.now ≡ marks_of x.now)) e

pub solve_on-requires : goal.solve_on-requires
solve_on-requires c =
    let s = c.args.netlist.bytes.now in
    let p = c.requires.0 in
    let l = lent _ _ _ c.of-numbers.ensures c.board.ensures in
    (slices_lent s p.sound _ l, begins_lent s p.sound _ l _ _ _ c.still.ensures (c.still.auto.flow ∙ c.requires.1) p.for_near p.for_far)

-- what the engine made of the numbers is the split of the book
solved : (c : After-solve_on) → Solved (card_of c.args.netlist.bytes.now) c.args.near.now c.args.far.now c.solve_on.new.near c.solve_on.new.far c.solve_on.new.flow
solved c = solved_lent c.args.netlist.bytes.now c.requires.0.sound _ (lent _ _ _ c.of-numbers.ensures c.board.ensures) _ _ _ _ _ c.solve_on.ensures

pub value-requires : goal.value-requires
value-requires c = solved_under c.args.netlist.bytes.now c.requires.0.sound _ _ _ _ _ (solved (goal.at.value-requires c).After-solve_on)

pub returns : goal.returns
returns c = let q = solved (goal.at.returns c).After-solve_on in (q, solved_price c.args.netlist.bytes.now c.requires.0.sound _ _ _ _ _ q _ c.value.ensures)
