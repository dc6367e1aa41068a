-- `flow::engine::raise` meets its contract: the flow is fair and the sums are its own (`Steady`); the measure is the value that is still to come. Assumes nothing.
use mathlib.Core.Path.{subst₂, sym, ◌∙◌}
use mathlib.Core.List.{List}
use Prim.Native.Nat.{ℕ}
use native.Mathlib.Omega.{arith}
use lib.IntN.{ℤ}
use Rattle.flow.specs.Board.{board_card}
use Rattle.flow.specs.Cards.{side_of}
use Rattle.flow.specs.Raise.{Raised}
use Rattle.flow.proofs.BoardLaws.{heavy_of}
use Rattle.flow.proofs.CardLaws.{card_valid}
use Rattle.flow.proofs.WholeLaws.{searched, comes_less, summable_of, steady_of}
use Rattle.flow.proofs.engine.raise.Goals as goal

pub net_sums-requires : goal.net_sums-requires
net_sums-requires c = summable_of _ _ _ _ c.requires.0.laid (heavy_of c.args.board.now) _ c.requires.1 c.requires.2 _ c.requires.0.sums

pub loop-more-init : goal.loop-more-init
loop-more-init c =
    let sums = c.net_sums.auto.sums in
    steady_of _ _ _ _ c.requires.0.laid (heavy_of c.args.board.now) _ c.requires.1 c.requires.2 _ (sums ∙ c.requires.0.sums) (record { sum = λ e l. c.net_sums.ensures.sum e (omega arith) })

pub push_makers-more-requires : goal.push_makers-more-requires
push_makers-more-requires c =
    let s = searched c.args.board.now c.requires.0.laid c.loop-more.invariant _ c.search.ensures in
    (board_card c.args.board.now, s.field, s.routes, c.loop-more.invariant)

pub loop-more-smaller : goal.loop-more-smaller
loop-more-smaller c =
    let s = searched c.args.board.now c.requires.0.laid c.loop-more.invariant _ c.search.ensures in
    let pushed = c.push_makers-more.ensures _ s.field s.routes c.loop-more.invariant in
    comes_less _ (card_valid _ _ _ _ c.requires.0.laid) _ _ _ _ _ pushed.gained (pushed.some c.if-not-more.false s.opens)

pub loop-more-preserved : goal.loop-more-preserved
loop-more-preserved c =
    let s = searched c.args.board.now c.requires.0.laid c.loop-more.invariant _ c.search.ensures in
    (c.push_makers-more.ensures _ s.field s.routes c.loop-more.invariant).gained.steady

pub returns : goal.returns
returns c =
    let b = c.args.board.now in
    let s = searched b c.requires.0.laid c.loop-more.invariant _ c.search.ensures in
    let none = (c.push_makers-more.ensures _ s.field s.routes c.loop-more.invariant).none c.if-not-more.true in
    subst₂ (λ (sm : List ℕ) (fl : List ℤ). Raised (board_card b) b.mods.now sm fl (side_of c.search.new.how)) (sym none.1) (sym none.0) (s.near none.2)
