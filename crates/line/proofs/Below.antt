-- A side counts at the modules of the card alone: two sides that agree on them are cheapest, near or far together. Assumes that the card is valid.
use mathlib.Core.Path.{◌≡◌}
use native.Mathlib.Omega.{arith}
use Rattle.line.specs.Card.{Card, Side, price, Separates, Cheapest, Near, Far, Alike}
use Rattle.line.proofs.Price.{price_same}
use Rattle.line.proofs.WayFlow.{Valid}

module _ (c : Card) (valid : Valid c) (s t : Side) (e : Alike c.modules s t) where
  pub price_alike : price c.nets s ≡ price c.nets t
  price_alike = price_same c.nets s t (λ m i. e m (valid.pins m i))

  pub separates_alike : Separates c s → Separates c t
  separates_alike p = record {
    meters = λ m l z. rw (← (e m l)) (p.meters m l z);
    makers = λ m l z. rw (← (e m l)) (p.makers m l z);
  }

  pub cheapest_alike : Cheapest c s → Cheapest c t
  cheapest_alike p = record { separates = separates_alike p.separates; least = λ u q. omega (arith, price_alike, p.least u q) }

  pub near_alike : Near c s → Near c t
  near_alike p = record { cheapest = cheapest_alike p.cheapest; inside = λ u q m l i. p.inside u q m l (rw (e m l) i) }

  pub far_alike : Far c s → Far c t
  far_alike p = record { cheapest = cheapest_alike p.cheapest; holds = λ u q m l i. rw (← (e m l)) (p.holds u q m l i) }
