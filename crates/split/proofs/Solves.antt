-- From what the engine and the writing of its answers ensure to both sides and the flow. Assumes nothing.
use Rattle.std.specs.Prelude.{◌≡◌, ℕ, Bool, true, false, List, length, ℤ, pos}
use mathlib.Core.Path.{sym, ap, ◌∙◌}
use native.Mathlib.Omega.{arith}
use Rattle.line.specs.Card.{outside, Alike, Far}
use Rattle.line.proofs.Below.{price_alike, near_alike, far_alike}
use Rattle.side.specs.Sides as sides
use Rattle.flow.specs.Board.{board_card}
use Rattle.flow.specs.declared.board.Board.{Board}
use Rattle.flow.specs.Cards.{card_of, side_of, Laid}
use Rattle.flow.specs.Raise.{Raised}
use Rattle.flow.proofs.BoardLaws.{tables_of, heavy_of}
use Rattle.flow.proofs.CardLaws.{card_valid}
use Rattle.flow.proofs.Raised.{raised_small}
use Rattle.split.specs.Writes.{Written}
use Rattle.split.specs.Solved.{Row, Solved}

-- a side that was written is a row of bits, and is what the search says
row_of : (how : List ℕ) (reached : Bool) (old new : List ℕ) (m : ℕ) → length how ≡ m → Written how reached (length how) old new → Row m old new
row_of how reached old new m e w = rw (← e) (record { long = w.long; spare = w.spare; tail = w.tail })

module _ (b : Board) (laid : Laid b.first.now b.mods.now b.weight.now b.mark.now) where
  pub solved : (sm : List ℕ) (fl : List ℤ) (how how' near₀ far₀ near far : List ℕ) → length how ≡ length b.mark.now → length how' ≡ length b.mark.now →
      Raised (board_card b) b.mods.now sm fl (side_of how) → Written how true (length how) near₀ near →
      Far (board_card b) (outside (side_of how')) → Written how' false (length how') far₀ far → Solved (board_card b) near₀ far₀ near far fl
  unfolding card_of
  solved sm fl how how' near₀ far₀ near far e f raised w farther v =
      let valid = card_valid b.first.now b.mods.now b.weight.now b.mark.now laid in
      let x : Alike (length b.mark.now) (side_of how) (sides.side_of near) = λ m l. sym (w.side m (omega (arith, e))) in
      let y : Alike (length b.mark.now) (outside (side_of how')) (sides.side_of far) = λ m l. sym (v.side m (omega (arith, f))) in
      record {
        near_row = row_of how true near₀ near (length b.mark.now) e w;
        far_row = row_of how' false far₀ far (length b.mark.now) f v;
        near_side = near_alike (board_card b) valid (side_of how) (sides.side_of near) x raised.near;
        far_side = far_alike (board_card b) valid (outside (side_of how')) (sides.side_of far) y farther;
        fair = raised.fair;
        value = raised.value ∙ ap pos (price_alike (board_card b) valid (side_of how) (sides.side_of near) x);
        small = λ p l. raised_small b.first.now b.mods.now b.weight.now b.nets.now b.at.now b.pins.now b.mark.now sm fl (side_of how) laid (tables_of b) (heavy_of b) raised p (omega (arith, raised.flows));
      }
