-- The price of a side, and so the cheapest, the near and the far side, depend neither on the order of the nets nor on the order of the pins in a net.
-- Assumes nothing.
use mathlib.Core.Path.{◌≡◌, refl, ◌∙◌}
use mathlib.Core.Logic.{◌↔◌}
use mathlib.Core.Bool.{Bool, true, false, ◌||◌}
use mathlib.Core.List.{List, Permᴰ}
use Prim.Native.Nat.{ℕ}
use native.Mathlib.Omega.{arith}
use Rattle.line.specs.Card.{Net, Card, Side, outside, touches, crosses, cost, price, Separates, Cheapest, Near, Far, Repinned, Reordered, none, next, swap, then, renet}
use Rattle.line.proofs.Lattice.{Same, same_back, separates_same, best_same, nearest_same, farthest_same}
use Rattle.line.proofs.Cheap.{cut, to_best, of_best, to_near, of_near, to_far, of_far}

touches_order : (s : Side) {ps qs : List ℕ} → Permᴰ ps qs → touches s ps ≡ touches s qs
unfolding touches
touches_order s Permᴰ.nil = refl
touches_order s (Permᴰ.cons e p) = rw (e, touches_order s p)
touches_order s (Permᴰ.swap {a' = b} {b' = a} {l = l} e g) = rw (e, g) (swapped (s a) (s b) (touches s l))
  where
    swapped : (x y z : Bool) → (x || (y || z)) ≡ (y || (x || z))
    swapped true true z = refl
    swapped true false z = refl
    swapped false y z = refl
touches_order s (Permᴰ.trans p q) = touches_order s p ∙ touches_order s q

cost_order : (s : Side) {n k : Net} → Repinned n k → cost s n ≡ cost s k
unfolding cost crosses
cost_order s e = rw (touches_order s e.pins, touches_order (outside s) e.pins, e.weight)

-- the price of a side is the same
pub price_order : {ns ks : List Net} → Reordered ns ks → (s : Side) → price ns s ≡ price ks s
unfolding price
price_order none s = refl
price_order (next e p) s = omega (arith, cost_order s e, price_order p s)
price_order swap s = omega arith
price_order (then p q) s = price_order p s ∙ price_order q s

module _ (c : Card) (ks : List Net) (o : Reordered c.nets ks) (s : Side) where
  -- modules, marks and prices are the same, and nothing else counts
  same : Same c (renet c ks) (cut c) (cut (renet c ks))
  same = record { modules = refl; marks = λ m l. refl; prices = price_order o }

  -- so the same sides separate, are cheapest, near and far
  pub separates_order : Separates c s ↔ Separates (renet c ks) s
  separates_order = (separates_same same s, separates_same (same_back same) s)

  pub cheapest_order : Cheapest c s ↔ Cheapest (renet c ks) s
  cheapest_order = ((λ p. of_best (renet c ks) s (best_same same s (to_best c s p))), (λ p. of_best c s (best_same (same_back same) s (to_best (renet c ks) s p))))

  pub near_order : Near c s ↔ Near (renet c ks) s
  near_order = ((λ p. of_near (renet c ks) s (nearest_same same s (to_near c s p))), (λ p. of_near c s (nearest_same (same_back same) s (to_near (renet c ks) s p))))

  pub far_order : Far c s ↔ Far (renet c ks) s
  far_order = ((λ p. of_far (renet c ks) s (farthest_same same s (to_far c s p))), (λ p. of_far c s (farthest_same (same_back same) s (to_far (renet c ks) s p))))
