-- Two sides that hold the same modules of a book have one price, and separate alike, also after one move. Assumes nothing.
use Prim.Native.Nat.{ℕ}
use mathlib.Core.Path.{◌≡◌, ap}
use mathlib.Core.Bool.{Bool, cond, not}
use mathlib.Core.List.{List}
use Rattle.line.specs.Card.{Side, Separates, Alike, price}
use Rattle.line.specs.Flow.{only}
use Rattle.line.proofs.Price.{price_same}
use Rattle.book.specs.Format.{modules}
use Rattle.book.specs.Sound.{Sound}
use Rattle.book.specs.Cards.{nets_of, card_of}
use Rattle.book.proofs.CardLaws.{card_valid}
use Rattle.side.specs.Moves.{flipped}

module _ (s : List ℕ) (x y : Side) (e : Alike (modules s) x y) where
  pub alike_price : Sound s → price (nets_of s) x ≡ price (nets_of s) y
  alike_price h = price_same (nets_of s) x y (λ m i. e m ((card_valid s h).pins m i))

  pub alike_separates : Separates (card_of s) x → Separates (card_of s) y
  alike_separates p = record {
    meters = λ m l k. rw (← (e m l)) (p.meters m l k);
    makers = λ m l k. rw (← (e m l)) (p.makers m l k);
  }

  pub alike_flipped : (k : ℕ) → Alike (modules s) (flipped x k) (flipped y k)
  alike_flipped k m l = ap (λ (b : Bool). cond (only k m) (not b) b) (e m l)
