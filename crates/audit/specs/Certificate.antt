-- What a third party checks: a flow, a side and a price, for any card. This page holds definitions only.
use Rattle.std.specs.Prelude.{◌≡◌, List, ℕ, ℤ, pos, ◌≤ℤ◌}
use Rattle.line.specs.Card.{Card, Side, price, Separates}
use Rattle.line.specs.Flow.{Fair, value}

-- the flow is fair, the side separates, and the flow's value, the side's price and the claimed price are one
pub record Certified (c : Card) (xs : List ℤ) (s : Side) (claim : ℕ) : Type 0 where
  pub fair : Fair c xs
  pub separates : Separates c s
  pub value_is : value c xs ≡ pos claim
  pub price_is : price c.nets s ≡ claim

-- a fair flow that no fair flow exceeds in value
pub record Greatest (c : Card) (xs : List ℤ) : Type 0 where
  pub fair : Fair c xs
  pub most : (zs : List ℤ) → Fair c zs → value c zs ≤ℤ value c xs
