-- The card that a board is. This page holds definitions only.
use Rattle.line.specs.Card.{Card}
use Rattle.flow.specs.Cards.{card_of}
use Rattle.flow.specs.declared.board.Board.{Board}

abbrev pub board_card : Board → Card
board_card b = card_of b.first.now b.mods.now b.weight.now b.mark.now
