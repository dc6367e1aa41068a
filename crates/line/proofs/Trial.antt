-- The near side and the far side by plain trial: each free module is tried in and out. So every card has a near side (`near_tried`) and a far side (`far_tried`), and those of small cards
-- compute. Assumes that the card is valid.
use mathlib.Core.Path.{◌≡◌, refl, sym, ◌∙◌}
use mathlib.Core.Bool.{Bool, true, false, not, cond}
use mathlib.Core.List.{List}
use Prim.Native.Nat.{ℕ, zero, suc, ◌≤◌, ◌<◌}
use native.Mathlib.Omega.{arith}
use native.Mathlib.Nat.{le_trans, le_of_eq}
use native.Mathlib.Decide.{ℕ_discrete}
use lib.Dec.{T, eqb, leb, eqb→eq, leb→le, nleb→lt, T_not}
use Rattle.line.specs.Card.{Net, Card, Side, outside, both, price, Separates, Cheapest, Near, Far, remark, pin}
use Rattle.line.specs.Flow.{only}
use Rattle.line.proofs.Bools.{and_r, T_same, not_and_l}
use Rattle.line.proofs.Ways.{plainly, price_by}
use Rattle.line.proofs.WayPrice.{price_plain}
use Rattle.line.proofs.Price.{price_same}
use Rattle.line.proofs.Lattice.{Same, nearest_same, pinned}
use Rattle.line.proofs.Cheap.{cut, to_near, far_plain, pin_to, pin_from, meter_tightens, maker_tightens, separates_loose, both_cheapest}
use Rattle.line.proofs.WayFlow.{Valid}
use Rattle.line.proofs.Turn.{turn, turn_near, valid_turn}

-- module n is tried out and in, and in only where that is cheaper
abbrev cheaper : List Net → Side → Side → Side
cheaper ns t s m = cond (leb (price ns t) (price ns s)) (t m) (s m)

-- the near side for the marks k, where every module from n on is pinned
unfoldable pub near_by : List Net → ℕ → (ℕ → ℕ) → Side
near_by ns zero k m = eqb (k m) 1
near_by ns (suc n) k m = cond (eqb (k n) 0) (cheaper ns (near_by ns n (pin 2 (only n) k)) (near_by ns n (pin 1 (only n) k)) m) (near_by ns n k m)

-- ---- one module tried

module _ (c : Card) (k : ℕ → ℕ) (n : ℕ) where
  separates_in : (u : Side) → T (u n) → Separates (remark c k) u → Separates (remark c (pin 1 (only n) k)) u
  separates_in u t p = record {
    meters = λ m l. pin_to (λ q. q ≡ 1 → T (u m)) 1 (only n) k m (λ i _ _. rw (eqb→eq m n i) t) (p.meters m l);
    makers = λ m l e. p.makers m l (pin_from (λ q. q ≡ 2) 1 (only n) k m e (λ z. omega arith));
  }

  separates_out : (u : Side) → T (not (u n)) → Separates (remark c k) u → Separates (remark c (pin 2 (only n) k)) u
  separates_out u t p = record {
    meters = λ m l e. p.meters m l (pin_from (λ q. q ≡ 1) 2 (only n) k m e (λ z. omega arith));
    makers = λ m l. pin_to (λ q. q ≡ 2 → T (not (u m))) 2 (only n) k m (λ i _ _. rw (eqb→eq m n i) t) (p.makers m l);
  }

  module _ (l : n < c.modules) (z : k n ≡ 0) (t s : Side) (p : Near (remark c (pin 2 (only n) k)) t) (q : Near (remark c (pin 1 (only n) k)) s) where
    t_separates : Separates (remark c k) t
    t_separates = separates_loose (remark c k) k (pin 2 (only n) k) (maker_tightens (remark c k) (only n)) t p.cheapest.separates

    s_separates : Separates (remark c k) s
    s_separates = separates_loose (remark c k) k (pin 1 (only n) k) (meter_tightens (remark c k) (only n)) s q.cheapest.separates

    t_out : T (not (t n))
    t_out = p.cheapest.separates.makers n l (pinned 2 n k z)

    -- a side that separates holds n or not
    least_in : (u : Side) → Separates (remark c k) u → T (u n) → price c.nets s ≤ price c.nets u
    least_in u a h = q.cheapest.least u (separates_in u h a)

    least_out : (u : Side) → Separates (remark c k) u → T (not (u n)) → price c.nets t ≤ price c.nets u
    least_out u a h = p.cheapest.least u (separates_out u h a)

    out_near : price c.nets t ≤ price c.nets s → Near (remark c k) t
    out_near f = record { cheapest = cheap; inside = λ u a m i h. and_r (t m) (u m) (p.inside (both t u) (with_t u a) m i h) }
      where
        least : (u : Side) → Separates (remark c k) u → price c.nets t ≤ price c.nets u
        least u a = by (u n) (least_in u a) (least_out u a)
          where
            by : (b : Bool) → (T b → price c.nets s ≤ price c.nets u) → (T (not b) → price c.nets t ≤ price c.nets u) → price c.nets t ≤ price c.nets u
            by true g h = le_trans f (g tt)
            by false g h = h tt

        cheap : Cheapest (remark c k) t
        cheap = record { separates = t_separates; least = least }

        with_t : (u : Side) → Cheapest (remark c k) u → Cheapest (remark c (pin 2 (only n) k)) (both t u)
        with_t u a =
            let d = both_cheapest (remark c k) t u cheap a in
            record {
              separates = separates_out (both t u) (not_and_l (t n) (u n) t_out) d.separates;
              least = λ r e. le_trans (d.least t t_separates) (p.cheapest.least r e);
            }

    in_near : price c.nets s < price c.nets t → Near (remark c k) s
    in_near f = record { cheapest = cheap; inside = λ u a. q.inside u (record { separates = separates_in u (holds u a) a.separates; least = λ r e. le_trans (a.least s s_separates) (q.cheapest.least r e) }) }
      where
        cheap : Cheapest (remark c k) s
        cheap = record { separates = s_separates; least = λ u a. by u a (u n) (least_in u a) (least_out u a) }
          where
            by : (u : Side) → Separates (remark c k) u → (b : Bool) → (T b → price c.nets s ≤ price c.nets u) → (T (not b) → price c.nets t ≤ price c.nets u) →
                price c.nets s ≤ price c.nets u
            by u a true g h = g tt
            by u a false g h = omega (arith, h tt)

        holds : (u : Side) → Cheapest (remark c k) u → T (u n)
        holds u a = by (u n) (least_out u a.separates)
          where
            by : (b : Bool) → (T (not b) → price c.nets t ≤ price c.nets u) → T b
            by true h = tt
            by false h = absurd (omega (arith, h tt, a.least s s_separates))

-- ---- all modules tried

abbrev PinnedFrom : Card → ℕ → (ℕ → ℕ) → Type 0
PinnedFrom c n k = (m : ℕ) → n ≤ m → m < c.modules → ¬ (k m ≡ 0)

module _ (c : Card) (k : ℕ → ℕ) (valid : Valid (remark c k)) where
  -- with every module pinned there is one side
  all_pinned : PinnedFrom c 0 k → Near (remark c k) (λ m. eqb (k m) 1)
  all_pinned f = record {
    cheapest = record {
      separates = record { meters = λ m l e. rw e tt; makers = λ m l e. rw e tt };
      least = λ u a. le_of_eq (price_same c.nets (λ m. eqb (k m) 1) u (λ m i. alike u a m (valid.pins m i)));
    };
    inside = λ u a m l t. a.separates.meters m l (eqb→eq (k m) 1 t);
  }
    where
      alike : (u : Side) → Separates (remark c k) u → (m : ℕ) → m < c.modules → eqb (k m) 1 ≡ u m
      alike u a m l = T_same (eqb (k m) 1) (u m) (λ t. a.meters m l (eqb→eq (k m) 1 t)) (λ t. by (k m) (f m (omega arith) l) (valid.marks m l) (λ e. T_not (u m) (a.makers m l e) t))
        where
          by : (q : ℕ) → ¬ (q ≡ 0) → q ≤ 2 → ¬ (q ≡ 2) → T (eqb q 1)
          by q d e g = let y : q ≡ 1 = omega arith in rw y tt

pin_valid : (c : Card) (k : ℕ → ℕ) (q n : ℕ) → q ≤ 2 → Valid (remark c k) → Valid (remark c (pin q (only n) k))
pin_valid c k q n h v = record { pins = v.pins; marks = λ m l. pin_to (λ r. r ≤ 2) q (only n) k m (λ _ _. h) (v.marks m l) }

pin_pinned : (c : Card) (k : ℕ → ℕ) (q n : ℕ) → ¬ (q ≡ 0) → PinnedFrom c (suc n) k → PinnedFrom c n (pin q (only n) k)
pin_pinned c k q n h f m g l e = by (ℕ_discrete m n)
  where
    was : k m ≡ 0
    was = pin_from (λ r. r ≡ 0) q (only n) k m e (λ z. absurd (h z))

    by : Dec (m ≡ n) → ⊥
    by (yes d) = h (sym (pinned q n k (rw d at was)) ∙ rw d at e)
    by (no d) = f m (omega arith) l was

near_by_below : (c : Card) (n : ℕ) (k : ℕ → ℕ) → n ≤ c.modules → Valid (remark c k) → PinnedFrom c n k → Near (remark c k) (near_by c.nets n k)
unfolding near_by
near_by_below c zero k l v f = all_pinned c k v f
near_by_below c (suc n) k l v f =
    go (eqb (k n) 0) (eqb→eq (k n) 0) not_free
    (near_by_below c n (pin 2 (only n) k) (omega arith) (pin_valid c k 2 n (omega arith) v) (pin_pinned c k 2 n (λ e. omega arith) f))
    (near_by_below c n (pin 1 (only n) k) (omega arith) (pin_valid c k 1 n (omega arith) v) (pin_pinned c k 1 n (λ e. omega arith) f))
    (λ d. near_by_below c n k (omega arith) v d)
  where
    not_free : T (not (eqb (k n) 0)) → PinnedFrom c n k
    not_free t m g i e = by (ℕ_discrete m n)
      where
        by : Dec (m ≡ n) → ⊥
        by (yes d) = let y : k n ≡ 0 = rw d at e in T_not (eqb (k n) 0) t (rw y tt)
        by (no d) = f m (omega arith) i e

    try : (t s : Side) → k n ≡ 0 → Near (remark c (pin 2 (only n) k)) t → Near (remark c (pin 1 (only n) k)) s → Near (remark c k) (cheaper c.nets t s)
    try t s z p q = by (leb (price c.nets t) (price c.nets s)) (leb→le (price c.nets t) (price c.nets s)) (nleb→lt (price c.nets t) (price c.nets s))
      where
        by : (b : Bool) → (T b → price c.nets t ≤ price c.nets s) → (T (not b) → price c.nets s < price c.nets t) → Near (remark c k) (λ m. cond b (t m) (s m))
        by true g h = out_near c k n (omega arith) z t s p q (g tt)
        by false g h = in_near c k n (omega arith) z t s p q (h tt)

    go : (b : Bool) → (T b → k n ≡ 0) → (T (not b) → PinnedFrom c n k) → Near (remark c (pin 2 (only n) k)) (near_by c.nets n (pin 2 (only n) k)) →
        Near (remark c (pin 1 (only n) k)) (near_by c.nets n (pin 1 (only n) k)) → (PinnedFrom c n k → Near (remark c k) (near_by c.nets n k)) →
        Near (remark c k) (λ m. cond b (cheaper c.nets (near_by c.nets n (pin 2 (only n) k)) (near_by c.nets n (pin 1 (only n) k)) m) (near_by c.nets n k m))
    go true e d p q r = try (near_by c.nets n (pin 2 (only n) k)) (near_by c.nets n (pin 1 (only n) k)) (e tt) p q
    go false e d p q r = r (d tt)

-- ---- the card as it is marked

abbrev pub near_in : Card → Side
near_in c = near_by c.nets c.modules c.mark

-- what lies outside the near side of the card turned round
abbrev pub far_in : Card → Side
far_in c = outside (near_in (turn c))

module _ (c : Card) (valid : Valid c) where
  -- every card has a near side
  pub near_tried : Near c (near_in c)
  near_tried = near_by_below c c.modules c.mark (omega arith) valid (λ m g l. absurd (omega arith))

-- and a far side
pub far_tried : (c : Card) → Valid c → Far c (far_in c)
far_tried c valid = far_plain c (far_in c) (turn_near plainly c (near_in (turn c)) (nearest_same same (near_in (turn c)) (to_near (turn c) (near_in (turn c)) (near_tried (turn c) (valid_turn c valid)))))
  where
    same : Same (turn c) (turn c) (cut (turn c)) (price_by plainly c.nets)
    same = record { modules = refl; marks = λ m l. refl; prices = λ s. sym (price_plain c.nets s) }
