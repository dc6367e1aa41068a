-- A split's sides among all cheapest sides, and the splits of two books: the order of nets and pins changes nothing; one module more pinned to the meter lets the near
-- side grow, and one more pinned to the maker lets the far side shrink. Assumes nothing.
use Rattle.std.specs.Prelude.{◌≡◌, ℕ, ◌<◌, ◌≤◌, not, T, List, Ok}
use mathlib.Core.Path.{sym, ap, ◌∙◌}
use native.Mathlib.Omega.{arith}
use Rattle.line.specs.Card.{Net, Side, price, Cheapest, Inside, Near, Far, Alike, remark, pin, Reordered}
use Rattle.line.specs.Flow.{only}
use Rattle.line.proofs.Lattice.{Same, nearest_same, farthest_same}
use Rattle.line.proofs.Cheap.{cut, to_near, of_near, to_far, of_far, near_one, far_one, pin_holds, pin_in, pin_price, pin_same, pin_same_price}
use Rattle.line.proofs.Cheap.{pin_far_inside, pin_far_out, pin_far_price, pin_far_same, pin_far_same_price}
use Rattle.line.proofs.Area.{near_area, near_area_one}
use Rattle.line.proofs.Order.{price_order}
use Rattle.book.specs.Format.{modules, area, mark}
use Rattle.book.specs.Cards.{card_of, nets_of, area_of}
use Rattle.side.specs.Sides.{side_of}
use Rattle.split.specs.Splits.{Buffers, Split}
use Rattle.split.proofs.Answers.{split_tells}
use Rattle.split.proofs.Least.{split_near, split_far, near_price, far_price, split_price}

-- ---- one book

module _ (s : List ℕ) (old new : Buffers) (p : ℕ) (k : Split s old (Ok p) new) where
  -- the near side lies inside every cheapest side
  pub near_inside : (t : Side) → Cheapest (card_of s) t → Inside (card_of s) (side_of new.near) t
  near_inside = (split_near s old new p k).inside

  -- and the far side holds every one
  pub far_holds : (t : Side) → Cheapest (card_of s) t → Inside (card_of s) t (side_of new.far)
  far_holds = (split_far s old new p k).holds

  -- areas are positive, so the near side is also the one of least area
  pub near_least_area : (t : Side) → Cheapest (card_of s) t → area_of s (side_of new.near) ≤ area_of s t
  near_least_area t q = near_area (card_of s) (area s) (side_of new.near) t (split_near s old new p k) q

  pub near_area_only : (t : Side) → Cheapest (card_of s) t → area_of s t ≤ area_of s (side_of new.near) → Alike (modules s) (side_of new.near) t
  near_area_only t q = near_area_one (card_of s) (area s) (side_of new.near) t (split_near s old new p k) q (split_tells s old new p k).sound.area_some

-- ---- two books: as many modules, the same marks, and the same nets in another order, each with its pins in another order

pub record Rearranged (s t : List ℕ) : Type 0 where
  pub modules_are : modules s ≡ modules t
  pub marks_are : Alike (modules s) (mark s) (mark t)
  pub nets_are : Reordered (nets_of s) (nets_of t)

module _ (s t : List ℕ) (o : Rearranged s t) (old new old' new' : Buffers) (p q : ℕ) (k : Split s old (Ok p) new) (l : Split t old' (Ok q) new') where
  same : Same (card_of s) (card_of t) (cut (card_of s)) (cut (card_of t))
  same = record { modules = o.modules_are; marks = o.marks_are; prices = price_order o.nets_are }

  near_there : Near (card_of t) (side_of new.near)
  near_there = of_near (card_of t) (side_of new.near) (nearest_same same (side_of new.near) (to_near (card_of s) (side_of new.near) (split_near s old new p k)))

  far_there : Far (card_of t) (side_of new.far)
  far_there = of_far (card_of t) (side_of new.far) (farthest_same same (side_of new.far) (to_far (card_of s) (side_of new.far) (split_far s old new p k)))

  -- one price, one near side and one far side
  pub order_price : p ≡ q
  order_price = sym (near_price s old new p k) ∙ price_order o.nets_are (side_of new.near) ∙ split_price t old' new' q l (side_of new.near) near_there.cheapest

  pub order_near : Alike (modules s) (side_of new.near) (side_of new'.near)
  order_near m i = near_one (card_of t) (side_of new.near) (side_of new'.near) near_there (split_near t old' new' q l) m (omega (arith, o.modules_are))

  pub order_far : Alike (modules s) (side_of new.far) (side_of new'.far)
  order_far m i = far_one (card_of t) (side_of new.far) (side_of new'.far) far_there (split_far t old' new' q l) m (omega (arith, o.modules_are))

-- ---- two books: as many modules, the same nets, and the marks of the one with the free module v pinned to k

pub record Pinned (k v : ℕ) (s t : List ℕ) : Type 0 where
  pub modules_are : modules s ≡ modules t
  pub nets_are : nets_of s ≡ nets_of t
  pub marks_are : Alike (modules s) (mark t) (pin k (only v) (mark s))
  pub under : v < modules s
  pub free : mark s v ≡ 0

module _ (k v : ℕ) (s t : List ℕ) (g : Pinned k v s t) where
  pinned_price : (x : Side) → price (nets_of t) x ≡ price (nets_of s) x
  pinned_price x = ap (λ (ns : List Net). price ns x) (sym g.nets_are)

  pinned_same : Same (card_of t) (remark (card_of s) (pin k (only v) (mark s))) (cut (card_of t)) (cut (card_of s))
  pinned_same = record { modules = sym g.modules_are; marks = λ m i. g.marks_are m (omega (arith, g.modules_are)); prices = pinned_price }

  pinned_near : (x : Side) → Near (card_of t) x → Near (remark (card_of s) (pin k (only v) (mark s))) x
  pinned_near x h = of_near (remark (card_of s) (pin k (only v) (mark s))) x (nearest_same pinned_same x (to_near (card_of t) x h))

  pinned_far : (x : Side) → Far (card_of t) x → Far (remark (card_of s) (pin k (only v) (mark s))) x
  pinned_far x h = of_far (remark (card_of s) (pin k (only v) (mark s))) x (farthest_same pinned_same x (to_far (card_of t) x h))

-- to the meter
module _ (v : ℕ) (s t : List ℕ) (g : Pinned 1 v s t) (old new old' new' : Buffers) (p q : ℕ) (k : Split s old (Ok p) new) (l : Split t old' (Ok q) new') where
  before : Near (card_of s) (side_of new.near)
  before = split_near s old new p k

  after : Near (remark (card_of s) (pin 1 (only v) (mark s))) (side_of new'.near)
  after = pinned_near 1 v s t g (side_of new'.near) (split_near t old' new' q l)

  after-price : price (nets_of s) (side_of new'.near) ≡ q
  after-price = sym (pinned_price 1 v s t g (side_of new'.near)) ∙ near_price t old' new' q l

  -- the near side grows, and holds v
  pub meter_grows : Inside (card_of s) (side_of new.near) (side_of new'.near)
  meter_grows = pin_holds (card_of s) v (side_of new.near) (side_of new'.near) before after

  pub meter_held : T (side_of new'.near v)
  meter_held = pin_in (card_of s) v (side_of new.near) (side_of new'.near) before after g.under g.free

  -- the price does not fall
  pub meter_price : p ≤ q
  meter_price = omega (arith, near_price s old new p k, after-price, pin_price (card_of s) v (side_of new.near) (side_of new'.near) before after)

  -- and where v was on the near side, both stay
  pub meter_stays : T (side_of new.near v) → Alike (modules s) (side_of new.near) (side_of new'.near)
  meter_stays = pin_same (card_of s) v (side_of new.near) (side_of new'.near) before after

  pub meter_stays_price : T (side_of new.near v) → p ≡ q
  meter_stays_price i = sym (near_price s old new p k) ∙ pin_same_price (card_of s) v (side_of new.near) (side_of new'.near) before after i ∙ after-price

-- to the maker
module _ (v : ℕ) (s t : List ℕ) (g : Pinned 2 v s t) (old new old' new' : Buffers) (p q : ℕ) (k : Split s old (Ok p) new) (l : Split t old' (Ok q) new') where
  far_before : Far (card_of s) (side_of new.far)
  far_before = split_far s old new p k

  far_after : Far (remark (card_of s) (pin 2 (only v) (mark s))) (side_of new'.far)
  far_after = pinned_far 2 v s t g (side_of new'.far) (split_far t old' new' q l)

  far_after_price : price (nets_of s) (side_of new'.far) ≡ q
  far_after_price = sym (pinned_price 2 v s t g (side_of new'.far)) ∙ far_price t old' new' q l

  -- the far side shrinks, and lacks v
  pub maker_shrinks : Inside (card_of s) (side_of new'.far) (side_of new.far)
  maker_shrinks = pin_far_inside (card_of s) v (side_of new.far) (side_of new'.far) far_before far_after

  pub maker_lacked : T (not (side_of new'.far v))
  maker_lacked = pin_far_out (card_of s) v (side_of new.far) (side_of new'.far) far_before far_after g.under g.free

  -- the price does not fall
  pub maker_price : p ≤ q
  maker_price = omega (arith, far_price s old new p k, far_after_price, pin_far_price (card_of s) v (side_of new.far) (side_of new'.far) far_before far_after)

  -- and where v was off the far side, both stay
  pub maker_stays : T (not (side_of new.far v)) → Alike (modules s) (side_of new.far) (side_of new'.far)
  maker_stays = pin_far_same (card_of s) v (side_of new.far) (side_of new'.far) far_before far_after

  pub maker_stays_price : T (not (side_of new.far v)) → p ≡ q
  maker_stays_price i = sym (far_price s old new p k) ∙ pin_far_same_price (card_of s) v (side_of new.far) (side_of new'.far) far_before far_after i ∙ far_after_price
