-- What a split answers is least and greatest: its price is the lowest of a side that separates, both its sides have it, and no fair flow has a larger value. Assumes nothing.
use Rattle.std.specs.Prelude.{◌≡◌, ℕ, ◌≤◌, List, take, ℤ, pos, ◌≤ℤ◌, Ok}
use mathlib.Core.Path.{sym, ap, ◌∙◌}
use Rattle.line.specs.Card.{Side, price, Separates, Cheapest, Near, Far}
use Rattle.line.specs.Flow.{Fair, value}
use Rattle.line.proofs.Cheap.{cheapest_price}
use Rattle.line.proofs.Duality.{weak_duality}
use Rattle.book.specs.Format.{pins}
use Rattle.book.specs.Cards.{card_of, nets_of}
use Rattle.book.proofs.CardLaws.{card_valid}
use Rattle.side.specs.Sides.{side_of}
use Rattle.audit.specs.Certificate.{Greatest}
use Rattle.split.specs.Splits.{Buffers, Split}
use Rattle.split.specs.Verdicts.{Told}
use Rattle.split.proofs.Answers.{split_tells}

module _ (s : List ℕ) (old new : Buffers) (p : ℕ) (k : Split s old (Ok p) new) where
  told : Told s p old new
  told = split_tells s old new p k

  -- ---- the near side and the far side

  pub split_near : Near (card_of s) (side_of new.near)
  split_near = told.holds.solved.near_side

  pub split_far : Far (card_of s) (side_of new.far)
  split_far = told.holds.solved.far_side

  pub near_separates : Separates (card_of s) (side_of new.near)
  near_separates = split_near.cheapest.separates

  pub far_separates : Separates (card_of s) (side_of new.far)
  far_separates = split_far.cheapest.separates

  -- the price is theirs
  pub near_price : price (nets_of s) (side_of new.near) ≡ p
  near_price = sym told.holds.price_is

  pub far_price : price (nets_of s) (side_of new.far) ≡ p
  far_price = cheapest_price (card_of s) (side_of new.far) (side_of new.near) split_far.cheapest split_near.cheapest ∙ near_price

  -- and no side that separates has a lower one
  pub split_least : (t : Side) → Separates (card_of s) t → p ≤ price (nets_of s) t
  split_least t q = rw (← near_price) (split_near.cheapest.least t q)

  -- every cheapest side has it
  pub split_price : (t : Side) → Cheapest (card_of s) t → price (nets_of s) t ≡ p
  split_price t q = cheapest_price (card_of s) t (side_of new.near) q split_near.cheapest ∙ near_price

  -- ---- the flow

  pub flow_fair : Fair (card_of s) (take (pins s) new.flow)
  flow_fair = told.holds.solved.fair

  pub flow_value : value (card_of s) (take (pins s) new.flow) ≡ pos p
  flow_value = told.holds.solved.value ∙ ap pos near_price

  -- no fair flow has a larger value
  pub flow_most : (zs : List ℤ) → Fair (card_of s) zs → value (card_of s) zs ≤ℤ pos p
  flow_most zs f = rw near_price at (weak_duality (card_of s) (card_valid s told.sound) zs f (side_of new.near) near_separates)

  pub flow_greatest : Greatest (card_of s) (take (pins s) new.flow)
  flow_greatest = record { fair = flow_fair; most = λ zs f. rw flow_value (flow_most zs f) }
