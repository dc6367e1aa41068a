-- What a flow, a side and a price that pass tell of the card, whoever made them: the side is cheapest, the flow greatest, the price the least. Assumes nothing.
-- By weak duality: no fair flow's value is above the price of a side that separates. So where the two meet, each is as good as can be; and every other that is as good meets too.
use mathlib.Core.Path.{◌≡◌, sym, ap, ◌∙◌}
use mathlib.Core.List.{List}
use Prim.Native.Nat.{ℕ, ◌≤◌}
use native.Mathlib.Nat.{le_antisymm}
use lib.Dec.{leb→le}
use lib.IntN.{ℤ, pos, negsuc}
use lib.Signed.{◌≤ℤ◌}
use Rattle.line.specs.Card.{Card, Side, price, Separates, Cheapest}
use Rattle.line.specs.Flow.{value}
use Rattle.line.proofs.Duality.{Valid, weak_duality}
use Rattle.audit.specs.Certificate.{Certified, Greatest}

-- an integer no larger than n, and no smaller, is n
meets : (z : ℤ) (n : ℕ) → z ≤ℤ pos n → pos n ≤ℤ z → z ≡ pos n
meets (pos m) n h k = ap pos (le_antisymm (leb→le m n h.le) (leb→le n m k.le))
meets (negsuc m) n h k = absurd k.le

module _ (c : Card) (valid : Valid c) (xs : List ℤ) (s : Side) (p : ℕ) (q : Certified c xs s p) where
  -- every side that separates costs the price or more
  pub certified_least : (t : Side) → Separates c t → p ≤ price c.nets t
  certified_least t u = let w : pos p ≤ℤ pos (price c.nets t) = rw q.value_is at (weak_duality c valid xs q.fair t u) in leb→le p (price c.nets t) w.le

  -- the side is a cheapest one
  pub certified_cheapest : Cheapest c s
  certified_cheapest = record { separates = q.separates; least = λ t u. rw q.price_is (certified_least t u) }

  -- no fair flow has a larger value
  pub certified_greatest : Greatest c xs
  certified_greatest = record { fair = q.fair; most = λ zs f. rw q.value_is (rw q.price_is at (weak_duality c valid zs f s q.separates)) }

  -- every cheapest side with every greatest flow passes too, with this price and no other
  pub certified_all : (zs : List ℤ) → Greatest c zs → (t : Side) → Cheapest c t → Certified c zs t p
  certified_all zs g t u = record {
    fair = g.fair;
    separates = u.separates;
    value_is = meets (value c zs) p (rw q.value_is at (certified_greatest.most zs g.fair)) (rw q.value_is at (g.most xs q.fair));
    price_is = le_antisymm (rw q.price_is at (u.least s q.separates)) (certified_least t u.separates);
  }

-- two that pass have one price
pub one_price : (c : Card) → Valid c → (xs zs : List ℤ) (s t : Side) (p r : ℕ) → Certified c xs s p → Certified c zs t r → p ≡ r
one_price c valid xs zs s t p r a b =
    let d = certified_all c valid xs s p a zs (certified_greatest c valid zs t r b) t (certified_cheapest c valid zs t r b) in
    sym d.price_is ∙ b.price_is
