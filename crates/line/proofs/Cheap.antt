-- The cheapest sides of a card: closed under both and either, one near side, one far side, and what pinning does to them. The laws of `Lattice` at the page's
-- price; and what is cheapest, near or far by `plainly` is so in the page's words. Assumes nothing.
use mathlib.Core.Path.{◌≡◌, refl}
use mathlib.Core.Bool.{not}
use Prim.Native.Nat.{ℕ, ◌≤◌, ◌<◌}
use lib.Dec.{T}
use Rattle.line.specs.Card.{Card, Side, both, either, price, Separates, Cheapest, Inside, Near, Far, Alike, remark, to_meter, to_maker}
use Rattle.line.specs.Flow.{only}
use Rattle.line.proofs.Ways.{Best, Nearest, Farthest, plainly, price_by, NearBy, FarBy}
use Rattle.line.proofs.WayPrice.{price_plain}
use Rattle.line.proofs.Price.{submodular}
use Rattle.line.proofs.Lattice
pub use Rattle.line.proofs.Lattice.{Tightens, pin_to, pin_from, meter_tightens, maker_tightens, separates_loose}

-- ---- the page's words and those of Lattice

module _ (c : Card) where
  abbrev pub cut : Side → ℕ
  cut = price c.nets

  pub to_best : (s : Side) → Cheapest c s → Best c cut s
  to_best s p = record { separates = p.separates; least = p.least }

  pub of_best : (s : Side) → Best c cut s → Cheapest c s
  of_best s p = record { separates = p.separates; least = p.least }

  pub to_near : (s : Side) → Near c s → Nearest c cut s
  to_near s p = record { cheapest = to_best s p.cheapest; inside = λ t q. p.inside t (of_best t q) }

  pub of_near : (s : Side) → Nearest c cut s → Near c s
  of_near s p = record { cheapest = of_best s p.cheapest; inside = λ t q. p.inside t (to_best t q) }

  pub to_far : (s : Side) → Far c s → Farthest c cut s
  to_far s p = record { cheapest = to_best s p.cheapest; holds = λ t q. p.holds t (of_best t q) }

  pub of_far : (s : Side) → Farthest c cut s → Far c s
  of_far s p = record { cheapest = of_best s p.cheapest; holds = λ t q. p.holds t (to_best t q) }

  -- and those by plainly
  plain : Lattice.Same c c (price_by plainly c.nets) cut
  plain = record { modules = refl; marks = λ m l. refl; prices = price_plain c.nets }

  pub near_plain : (s : Side) → NearBy plainly c s → Near c s
  near_plain s p = of_near s (Lattice.nearest_same plain s p)

  pub far_plain : (s : Side) → FarBy plainly c s → Far c s
  far_plain s p = of_far s (Lattice.farthest_same plain s p)

-- ---- the laws

module _ (c : Card) where
  sub : Lattice.Submodular (cut c)
  sub = submodular c.nets

  pub both_cheapest : (s t : Side) → Cheapest c s → Cheapest c t → Cheapest c (both s t)
  both_cheapest s t p q = of_best c (both s t) (Lattice.both_cheapest (cut c) sub c s t (to_best c s p) (to_best c t q))

  pub either_cheapest : (s t : Side) → Cheapest c s → Cheapest c t → Cheapest c (either s t)
  either_cheapest s t p q = of_best c (either s t) (Lattice.either_cheapest (cut c) sub c s t (to_best c s p) (to_best c t q))

  -- there is one near side, one far side and one least price
  pub near_one : (s t : Side) → Near c s → Near c t → Alike c.modules s t
  near_one s t p q = Lattice.near_one (cut c) c s t (to_near c s p) (to_near c t q)

  pub far_one : (s t : Side) → Far c s → Far c t → Alike c.modules s t
  far_one s t p q = Lattice.far_one (cut c) c s t (to_far c s p) (to_far c t q)

  pub cheapest_price : (s t : Side) → Cheapest c s → Cheapest c t → price c.nets s ≡ price c.nets t
  cheapest_price s t p q = Lattice.cheapest_price (cut c) c s t (to_best c s p) (to_best c t q)

  -- marks that tighten: the price does not fall, and a near side that still separates is the near side still
  module _ (j k : ℕ → ℕ) (g : Tightens c j k) (s : Side) where
    pub price_rises : (t : Side) → Cheapest (remark c j) s → Cheapest (remark c k) t → price c.nets s ≤ price c.nets t
    price_rises t p q = Lattice.price_rises (cut c) c j k g s t (to_best (remark c j) s p) (to_best (remark c k) t q)

    pub near_stays : Separates (remark c k) s → Near (remark c j) s → Near (remark c k) s
    near_stays still p = of_near (remark c k) s (Lattice.near_stays (cut c) c j k g s still (to_near (remark c j) s p))

  -- one free module v more is pinned to the meter: the near side t after holds the near side s before, and v; its price is no lower; both are as before if v was in s
  module _ (v : ℕ) (s t : Side) (p : Near c s) (q : Near (remark c (to_meter c (only v))) t) where
    pub pin_holds : Inside c s t
    pin_holds = Lattice.pin_holds (cut c) sub c v s t (to_near c s p) (to_near (remark c (to_meter c (only v))) t q)

    pub pin_in : v < c.modules → c.mark v ≡ 0 → T (t v)
    pin_in = Lattice.pin_in (cut c) sub c v s t (to_near c s p) (to_near (remark c (to_meter c (only v))) t q)

    pub pin_price : price c.nets s ≤ price c.nets t
    pin_price = Lattice.pin_price (cut c) sub c v s t (to_near c s p) (to_near (remark c (to_meter c (only v))) t q)

    pub pin_same : T (s v) → Alike c.modules s t
    pin_same = Lattice.pin_same (cut c) sub c v s t (to_near c s p) (to_near (remark c (to_meter c (only v))) t q)

    pub pin_same_price : T (s v) → price c.nets s ≡ price c.nets t
    pin_same_price = Lattice.pin_same_price (cut c) sub c v s t (to_near c s p) (to_near (remark c (to_meter c (only v))) t q)

  -- the mirror: pinned to the maker, the far side t after lies inside the far side s before, and lacks v; its price is no lower; both are as before if v was outside s
  module _ (v : ℕ) (s t : Side) (p : Far c s) (q : Far (remark c (to_maker c (only v))) t) where
    pub pin_far_inside : Inside c t s
    pin_far_inside = Lattice.pin_far_inside (cut c) sub c v s t (to_far c s p) (to_far (remark c (to_maker c (only v))) t q)

    pub pin_far_out : v < c.modules → c.mark v ≡ 0 → T (not (t v))
    pin_far_out = Lattice.pin_far_out (cut c) sub c v s t (to_far c s p) (to_far (remark c (to_maker c (only v))) t q)

    pub pin_far_price : price c.nets s ≤ price c.nets t
    pin_far_price = Lattice.pin_far_price (cut c) sub c v s t (to_far c s p) (to_far (remark c (to_maker c (only v))) t q)

    pub pin_far_same : T (not (s v)) → Alike c.modules s t
    pin_far_same = Lattice.pin_far_same (cut c) sub c v s t (to_far c s p) (to_far (remark c (to_maker c (only v))) t q)

    pub pin_far_same_price : T (not (s v)) → price c.nets s ≡ price c.nets t
    pin_far_same_price = Lattice.pin_far_same_price (cut c) sub c v s t (to_far c s p) (to_far (remark c (to_maker c (only v))) t q)
