-- Flows against sides, by ways: the value of a fair flow is at most the price of a side that separates, is the price of one that no step leaves, and is the
-- price of no other. So such a side is cheapest and its flow is largest; the least is the near side, the largest the far side. Assumes nothing.
use mathlib.Core.Path.{◌≡◌, refl, ap, ◌∙◌}
use mathlib.Core.Logic.{◌⊎◌, inl, inr}
use mathlib.Core.Bool.{Bool, true, false, not, cond, ◌&&◌, ◌||◌}
use mathlib.Core.List.{List, [], ◌∷◌, Memᴰ}
use Prim.Native.Nat.{ℕ, zero, suc, ◌+◌, ◌≤◌, ◌<◌}
use native.Mathlib.Omega.{arith}
use native.Mathlib.Nat.{le_of_suc-le-suc, not-suc-le-zero, lt_of_not-le}
use lib.IntN.{ℤ, pos}
use lib.Signed.{◌≤ℤ◌}
use lib.ListN.{length, take, drop, get_or}
use lib.Dec.{T, eqb, eqb→eq, leb→le}
use Rattle.line.specs.Card.{Net, Card, Side, outside, all_pins, Separates, Inside}
use Rattle.line.specs.Flow.{sent, taken, total_sent, flow_at, EachNet, NetRule, meters, only, Fair, value}
use Rattle.line.proofs.Ways.{Ways, later, meets, crosses_by, cost_by, price_by, CheapestBy, NearBy, FarBy, EachBy, NetRoles, FairBy, NetKeepsBy, ClosedBy}
use Rattle.line.proofs.Sums.{is_pos, le_pos, sum_at, everywhere, flow_diff, total_diff, sum_sent, sum_at-append, sum_at_all, bit, sum_at_split, sum_at_out, level_modules, sum_at_zeros, zeros_sum_at}
use Rattle.line.proofs.Bools.{or_r, in_of, clash}

-- a card whose pins name modules and whose marks are three: every book that is read gives one
pub record Valid (c : Card) : Type 0 where
  pub pins : (m : ℕ) → Memᴰ m (all_pins c.nets) → m < c.modules
  pub marks : (m : ℕ) → m < c.modules → c.mark m ≤ 2

-- ---- pins by number

met_split : (r a q : Bool) → T ((r && a) || q) → (T r × T a) ⊎ T q
met_split true true q t = inl (tt, tt)
met_split true false q t = inr t
met_split false a q t = inr t

met_here : (r a q : Bool) → T r → T a → T ((r && a) || q)
met_here true true q s t = tt
met_here true false q s t = absurd t
met_here false a q s t = absurd s

pub meets_find : (r : ℕ → Bool) (s : Side) (ps : List ℕ) → T (meets r s ps) → (i : ℕ) × (i < length ps) × T (r i) × T (s (get_or ps i 0))
unfolding meets
meets_find r s [] t = absurd t
meets_find r s (p ∷ ps) t = go (met_split (r 0) (s p) (meets (λ i. r (suc i)) s ps) t) (meets_find (λ i. r (suc i)) s ps)
  where
    go : (T (r 0) × T (s p)) ⊎ T (meets (λ i. r (suc i)) s ps) → (T (meets (λ i. r (suc i)) s ps) → (i : ℕ) × (i < length ps) × T (r (suc i)) × T (s (get_or ps i 0))) →
        (i : ℕ) × (i < suc (length ps)) × T (r i) × T (s (get_or (p ∷ ps) i 0))
    go (inl h) f = (0, omega arith, h.0, h.1)
    go (inr h) f = let k = f h in (suc k.0, omega (arith, k.1), k.2, k.3)

pub meets_at : (r : ℕ → Bool) (s : Side) (ps : List ℕ) (i : ℕ) → i < length ps → T (r i) → T (s (get_or ps i 0)) → T (meets r s ps)
unfolding meets
meets_at r s [] i l h t = absurd (not-suc-le-zero l)
meets_at r s (p ∷ ps) zero l h t = met_here (r 0) (s p) (meets (λ i. r (suc i)) s ps) h t
meets_at r s (p ∷ ps) (suc i) l h t = or_r (r 0 && s p) (meets (λ i. r (suc i)) s ps) (meets_at (λ k. r (suc k)) s ps i (le_of_suc-le-suc l) h t)

zero_or : (x : ℕ) → (0 < x → ⊥) → x ≡ 0
zero_or zero h = refl
zero_or (suc x) h = absurd (h (omega arith))

-- numbers that stand at pins of the role r alone add to nothing over a side where there is none
sum_at_unmet : (f : ℤ → ℕ) (r : ℕ → Bool) (s : Side) (ps : List ℕ) (xs : List ℤ) → ((i : ℕ) → 0 < f (get_or xs i (pos 0)) → T (r i)) → T (not (meets r s ps)) → sum_at f s ps xs ≡ 0
sum_at_unmet f r s ps xs h u =
    sum_at_zeros f s ps xs (λ i l t. zero_or (f (get_or xs i (pos 0))) (λ p. clash (meets r s ps) (meets_at r s ps i l (h i p) t) u))

-- ---- one net: ys are the first numbers of xs, one for each pin

module _ (r q : ℕ → Bool) (s : Side) (n : Net) (xs : List ℤ) (rule : NetRule n (take (length n.pins) xs)) (role : NetRoles r q n (take (length n.pins) xs)) where
  abbrev ps : List ℕ
  ps = n.pins

  abbrev ys : List ℤ
  ys = take (length n.pins) xs

  all_level : sum_at sent everywhere ps ys ≡ sum_at taken everywhere ps ys
  all_level = omega (arith, sum_at_all sent ps xs, sum_at_all taken ps xs, total_diff ys, ap sent rule.zero, ap taken rule.zero)

  all_sent : sum_at sent everywhere ps ys ≡ total_sent ys
  all_sent = sum_at_all sent ps xs ∙ sum_sent ys

  -- what leaves s through the net is at most what it costs
  net_cut : sum_at sent s ps ys ≤ cost_by r q s n + sum_at taken s ps ys
  unfolding cost_by crosses_by
  net_cut = go (meets r s ps) (meets q (outside s) ps) (sum_at_unmet sent r s ps ys role.sends) (sum_at_unmet taken q (outside s) ps ys role.takes)
    where
      go : (a b : Bool) → (T (not a) → sum_at sent s ps ys ≡ 0) → (T (not b) → sum_at taken (outside s) ps ys ≡ 0) →
          sum_at sent s ps ys ≤ cond (a && b) n.weight 0 + sum_at taken s ps ys
      go true true f g = omega (arith, sum_at_out sent s ps ys, all_sent, rule.fits)
      go true false f g = omega (arith, sum_at_out sent s ps ys, sum_at_out taken s ps ys, all_level, g tt)
      go false b f g = omega (arith, f tt)

  abbrev Finds : (ℕ → Bool) → Side → Type 0
  Finds p t = (i : ℕ) × (i < length ps) × T (p i) × T (t (get_or ps i 0))

  -- and is just that where no step leaves s
  net_closed_cut : NetKeepsBy r q s n ys → sum_at sent s ps ys ≡ cost_by r q s n + sum_at taken s ps ys
  unfolding cost_by crosses_by
  net_closed_cut k =
      go (meets r s ps) (meets q (outside s) ps) (sum_at_unmet sent r s ps ys role.sends) (sum_at_unmet taken q (outside s) ps ys role.takes)
      (meets_find r s ps) (meets_find q (outside s) ps) (λ i l p t. clash (meets r s ps) (meets_at r s ps i l p t))
    where
      -- with a sender inside, none outside sends
      none_out : Finds r s → sum_at sent (outside s) ps ys ≡ 0
      none_out a =
          sum_at_zeros sent (outside s) ps ys (λ i l t. zero_or (sent (get_or ys i (pos 0))) (λ h. clash (s (get_or ps i 0)) (k a.0 i a.1 l a.3 (record { leave = inl a.2; enter = inr h; room = inr (inl h) })) t))

      -- with a taker outside, none inside takes
      none_in : Finds q (outside s) → sum_at taken s ps ys ≡ 0
      none_in b =
          sum_at_zeros taken s ps ys (λ i l t. zero_or (taken (get_or ys i (pos 0))) (λ h. clash (s (get_or ps b.0 0)) (k i b.0 l b.1 t (record { leave = inr h; enter = inl b.2; room = inl h })) b.3))

      full : Finds r s → Finds q (outside s) → n.weight ≤ total_sent ys
      full a b =
          le_of_suc-le-suc (lt_of_not-le (λ h. clash (s (get_or ps b.0 0)) (k a.0 b.0 a.1 b.1 a.3 (record { leave = inl a.2; enter = inl b.2; room = inr (inr (omega (arith, h))) })) b.3))

      -- with no sender inside, none inside takes: what it takes would come from a sender, and a step leads there
      none_taken : ((i : ℕ) → i < length ps → T (r i) → T (s (get_or ps i 0)) → ⊥) → sum_at taken s ps ys ≡ 0
      none_taken u = sum_at_zeros taken s ps ys (λ i l t. zero_or (taken (get_or ys i (pos 0))) (λ h. absurd (omega (arith, h, zeros_sum_at taken refl everywhere ps ys (omega (arith, all_level, quiet i l t h)) i l tt))))
        where
          quiet : (i : ℕ) → i < length ps → T (s (get_or ps i 0)) → 0 < taken (get_or ys i (pos 0)) → sum_at sent everywhere ps ys ≡ 0
          quiet i l t h =
              sum_at_zeros sent everywhere ps ys (λ j m _. zero_or (sent (get_or ys j (pos 0))) (λ g. u j m (role.sends j g) (k i j l m t (record { leave = inr h; enter = inr g; room = inl h }))))

      go : (a b : Bool) → (T (not a) → sum_at sent s ps ys ≡ 0) → (T (not b) → sum_at taken (outside s) ps ys ≡ 0) → (T a → Finds r s) → (T b → Finds q (outside s)) →
          ((i : ℕ) → i < length ps → T (r i) → T (s (get_or ps i 0)) → T (not a) → ⊥) → sum_at sent s ps ys ≡ cond (a && b) n.weight 0 + sum_at taken s ps ys
      go true true f g a b u = omega (arith, sum_at_out sent s ps ys, all_sent, rule.fits, full (a tt) (b tt), none_out (a tt), none_in (b tt))
      go true false f g a b u = omega (arith, sum_at_out sent s ps ys, sum_at_out taken s ps ys, all_level, g tt, none_out (a tt))
      go false b f g a b' u = omega (arith, f tt, none_taken (λ i l p t. u i l p t tt))

  -- and only there
  net_cut_closed : sum_at sent s ps ys ≡ cost_by r q s n + sum_at taken s ps ys → NetKeepsBy r q s n ys
  unfolding cost_by crosses_by
  net_cut_closed e a b la lb t p =
      in_of (s (get_or ps b 0))
      (λ u. go (meets r s ps) (meets q (outside s) ps) (sum_at_unmet sent r s ps ys role.sends) (sum_at_unmet taken q (outside s) ps ys role.takes)
      (λ h. clash (meets r s ps) (meets_at r s ps a la h t)) (λ h. clash (meets q (outside s) ps) (meets_at q (outside s) ps b lb h u)) u e p.leave p.enter p.room)
    where
      -- pin a is inside: it takes no more than all of s; pin b is outside
      at_a : sum_at taken s ps ys ≡ 0 → 1 ≤ taken (get_or ys a (pos 0)) → ⊥
      at_a z h = omega (arith, zeros_sum_at taken refl s ps ys z a la t)

      at_b : T (not (s (get_or ps b 0))) → sum_at sent (outside s) ps ys ≡ 0 → 1 ≤ sent (get_or ys b (pos 0)) → ⊥
      at_b u z h = omega (arith, zeros_sum_at sent refl (outside s) ps ys z b lb u)

      go : (x y : Bool) → (T (not x) → sum_at sent s ps ys ≡ 0) → (T (not y) → sum_at taken (outside s) ps ys ≡ 0) → (T (r a) → T (not x) → ⊥) → (T (q b) → T (not y) → ⊥) →
          T (not (s (get_or ps b 0))) → sum_at sent s ps ys ≡ cond (x && y) n.weight 0 + sum_at taken s ps ys →
          T (r a) ⊎ (1 ≤ taken (get_or ys a (pos 0))) → T (q b) ⊎ (1 ≤ sent (get_or ys b (pos 0))) →
          (1 ≤ taken (get_or ys a (pos 0))) ⊎ ((1 ≤ sent (get_or ys b (pos 0))) ⊎ (total_sent ys + 1 ≤ n.weight)) → ⊥
      go true true f g i j u e l m (inl h) = at_a (omega (arith, sum_at_out sent s ps ys, all_sent, rule.fits)) h
      go true true f g i j u e l m (inr (inl h)) = at_b u (omega (arith, sum_at_out sent s ps ys, all_sent, rule.fits)) h
      go true true f g i j u e l m (inr (inr h)) = omega (arith, sum_at_out sent s ps ys, all_sent, rule.fits)
      go true false f g i j u e l (inl h) o = j h tt
      go true false f g i j u e l (inr h) o = at_b u (omega (arith, sum_at_out sent s ps ys, sum_at_out taken s ps ys, all_level, g tt)) h
      go false y f g i j u e (inl h) m o = i h tt
      go false y f g i j u e (inr h) m o = at_a (omega (arith, f tt)) h

-- ---- all nets

abbrev Rules : List Net → List ℤ → Type 0
Rules ns xs = EachNet NetRule ns xs

abbrev Roles : Ways → List Net → List ℤ → Type 0
Roles w ns xs = EachBy (λ e. NetRoles (w.sends e) (w.takes e)) ns xs

abbrev Keeps : Ways → Side → List Net → List ℤ → Type 0
Keeps w s ns xs = EachBy (λ e. NetKeepsBy (w.sends e) (w.takes e) s) ns xs

module _ (s : Side) where
  nets_cut : (w : Ways) (ns : List Net) (xs : List ℤ) → Rules ns xs → Roles w ns xs → sum_at sent s (all_pins ns) xs ≤ price_by w ns s + sum_at taken s (all_pins ns) xs
  unfolding EachNet EachBy price_by all_pins sum_at
  nets_cut w [] xs r q = omega arith
  nets_cut w (n ∷ ns) xs r q =
      omega (
        arith,
        net_cut (w.sends 0) (w.takes 0) s n xs r.0 q.0,
        nets_cut (later w) ns (drop (length n.pins) xs) r.1 q.1,
        sum_at-append sent s n.pins (all_pins ns) xs,
        sum_at-append taken s n.pins (all_pins ns) xs,
      )

  nets_closed_cut : (w : Ways) (ns : List Net) (xs : List ℤ) → Rules ns xs → Roles w ns xs → Keeps w s ns xs →
      sum_at sent s (all_pins ns) xs ≡ price_by w ns s + sum_at taken s (all_pins ns) xs
  unfolding EachNet EachBy price_by all_pins sum_at
  nets_closed_cut w [] xs r q k = omega arith
  nets_closed_cut w (n ∷ ns) xs r q k =
      omega (
        arith,
        net_closed_cut (w.sends 0) (w.takes 0) s n xs r.0 q.0 k.0,
        nets_closed_cut (later w) ns (drop (length n.pins) xs) r.1 q.1 k.1,
        sum_at-append sent s n.pins (all_pins ns) xs,
        sum_at-append taken s n.pins (all_pins ns) xs,
      )

  nets_cut_closed : (w : Ways) (ns : List Net) (xs : List ℤ) → Rules ns xs → Roles w ns xs →
      sum_at sent s (all_pins ns) xs ≡ price_by w ns s + sum_at taken s (all_pins ns) xs → Keeps w s ns xs
  unfolding EachNet EachBy price_by all_pins sum_at
  nets_cut_closed w [] xs r q e = tt
  nets_cut_closed w (n ∷ ns) xs r q e =
      let c = net_cut (w.sends 0) (w.takes 0) s n xs r.0 q.0 in
      let d = nets_cut (later w) ns (drop (length n.pins) xs) r.1 q.1 in
      let u = sum_at-append sent s n.pins (all_pins ns) xs in
      let v = sum_at-append taken s n.pins (all_pins ns) xs in
      (net_cut_closed (w.sends 0) (w.takes 0) s n xs r.0 q.0 (omega arith), nets_cut_closed (later w) ns (drop (length n.pins) xs) r.1 q.1 (omega arith))

-- ---- a card and a fair flow

module _ (c : Card) (valid : Valid c) (xs : List ℤ) (fair : Fair c xs) where
  abbrev all : List ℕ
  all = all_pins c.nets

  -- the free modules of s
  abbrev free_of : Side → Side
  free_of s m = s m && eqb (c.mark m) 0

  pub free_level : (s : Side) → sum_at sent (free_of s) all xs ≡ sum_at taken (free_of s) all xs
  free_level s = level_modules all xs (free_of s) c.modules valid.pins (λ m l t. one m l (go (s m) (c.mark m) t))
    where
      go : (a : Bool) (k : ℕ) → T (a && eqb k 0) → k ≡ 0
      go true k t = eqb→eq k 0 t
      go false k t = absurd t

      one : (m : ℕ) → m < c.modules → c.mark m ≡ 0 → sum_at sent (only m) all xs ≡ sum_at taken (only m) all xs
      one m l e = let z = fair.modules m l e in omega (arith, flow_diff (only m) all xs, ap sent z, ap taken z)

  -- the pins of a side that separates are those of the meters, and those of its free modules
  parts : (s : Side) → Separates c s → (m : ℕ) → m < c.modules → bit (s m) ≡ bit (meters c m) + bit (free_of s m)
  parts s p m l = go (c.mark m) (s m) (valid.marks m l) (p.meters m l) (p.makers m l)
    where
      go : (k : ℕ) (b : Bool) → k ≤ 2 → (k ≡ 1 → T b) → (k ≡ 2 → T (not b)) → bit b ≡ bit (eqb k 1) + bit (b && eqb k 0)
      go zero true l f g = refl
      go zero false l f g = refl
      go (suc zero) true l f g = refl
      go (suc zero) false l f g = absurd (f refl)
      go (suc (suc zero)) true l f g = absurd (g refl)
      go (suc (suc zero)) false l f g = refl
      go (suc (suc (suc k))) b l f g = absurd (omega arith)

  -- what leaves s is the value
  pub leaves : (s : Side) → Separates c s → sum_at sent s all xs + sum_at taken (meters c) all xs ≡ sum_at sent (meters c) all xs + sum_at taken s all xs
  leaves s p =
      omega (
        arith,
        free_level s,
        sum_at_split sent s (meters c) (free_of s) all xs (λ m i. parts s p m (valid.pins m i)),
        sum_at_split taken s (meters c) (free_of s) all xs (λ m i. parts s p m (valid.pins m i)),
      )

module _ (w : Ways) (c : Card) (valid : Valid c) (xs : List ℤ) (f : FairBy w c xs) where
  abbrev pins : List ℕ
  pins = all_pins c.nets

  pub weak_duality : (s : Side) → Separates c s → value c xs ≤ℤ pos (price_by w c.nets s)
  unfolding value
  weak_duality s p =
      le_pos (flow_at (meters c) pins xs) (price_by w c.nets s)
      (omega (arith, flow_diff (meters c) pins xs, leaves c valid xs f.fair s p, nets_cut s w c.nets xs f.fair.nets f.roles))

  pub closed_price : (s : Side) → Separates c s → ClosedBy w c s xs → value c xs ≡ pos (price_by w c.nets s)
  unfolding value
  closed_price s p k =
      is_pos (flow_at (meters c) pins xs) (price_by w c.nets s)
      (omega (arith, flow_diff (meters c) pins xs, leaves c valid xs f.fair s p, nets_closed_cut s w c.nets xs f.fair.nets f.roles k))

  pub price_closed : (s : Side) → Separates c s → value c xs ≡ pos (price_by w c.nets s) → ClosedBy w c s xs
  unfolding value
  price_closed s p e =
      nets_cut_closed s w c.nets xs f.fair.nets f.roles (omega (arith, flow_diff (meters c) pins xs, leaves c valid xs f.fair s p, ap sent e, ap taken e))

pub pos_le : (m n : ℕ) → pos m ≤ℤ pos n → m ≤ n
pos_le m n h = leb→le m n h.le

module _ (w : Ways) (c : Card) (valid : Valid c) (xs : List ℤ) (f : FairBy w c xs) (s : Side) (p : Separates c s) (k : ClosedBy w c s xs) where
  -- a side that separates and that no step leaves is a cheapest one
  pub closed_cheapest : CheapestBy w c s
  closed_cheapest = record {
    separates = p;
    least = λ t q. pos_le (price_by w c.nets s) (price_by w c.nets t) (rw (closed_price w c valid xs f s p k) at (weak_duality w c valid xs f t q));
  }

  -- no step leaves a cheapest side
  pub cheapest_closed : (t : Side) → CheapestBy w c t → ClosedBy w c t xs
  cheapest_closed t q =
      price_closed w c valid xs f t q.separates
      (closed_price w c valid xs f s p k ∙ ap pos (same (closed_cheapest.least t q.separates) (q.least s p)))
    where
      same : {a b : ℕ} → a ≤ b → b ≤ a → a ≡ b
      same h g = omega arith

  -- the least closed side over the meters is the near side
  pub closed_near : ((t : Side) → ((m : ℕ) → m < c.modules → c.mark m ≡ 1 → T (t m)) → ClosedBy w c t xs → Inside c s t) → NearBy w c s
  closed_near h = record { cheapest = closed_cheapest; inside = λ t q. h t q.separates.meters (cheapest_closed t q) }

  -- the largest closed side without a maker is the far side
  pub closed_far : ((t : Side) → ((m : ℕ) → m < c.modules → c.mark m ≡ 2 → T (not (t m))) → ClosedBy w c t xs → Inside c t s) → FarBy w c s
  closed_far h = record { cheapest = closed_cheapest; holds = λ t q. h t q.separates.makers (cheapest_closed t q) }
