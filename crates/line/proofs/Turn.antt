-- On the turned card steps go the other way: meters and makers change places there, senders and takers change places, and every number changes its sign. So ONE
-- search forwards gives the near side (`reached_near`) and, on the turned card, what lies outside the far side (`reached_far`). Assumes nothing.
use mathlib.Core.Path.{◌≡◌, refl, sym, ap, ◌∙◌}
use mathlib.Core.Logic.{◌⊎◌, inl, inr}
use mathlib.Core.Bool.{Bool, true, false, not, cond, ◌&&◌, not-not, and_comm}
use mathlib.Core.List.{List, [], ◌∷◌, map}
use Prim.Native.Nat.{ℕ, zero, suc, ◌≤◌, ◌<◌}
use native.Mathlib.Omega.{arith}
use lib.IntN.{ℤ, pos, negsuc, neg_ℤ}
use lib.ListN.{length, take, drop, get_or, get_or-map}
use lib.Dec.{T, lit≤}
use Rattle.line.specs.Card.{Net, Card, Side, outside, all_pins, Separates, Inside, Near, Far}
use Rattle.line.specs.Flow.{sent, taken, total, total_sent, flow_at, EachNet, NetRule, Fair, only}
use Rattle.line.proofs.Ways.{Ways, plainly, later, meets, crosses_by, cost_by, price_by, CheapestBy, NearBy, FarBy, NetRoles, FairBy, PassesBy, NetKeepsBy, ClosedBy}
use Rattle.line.proofs.WayPrice.{meets_same}
use Rattle.line.proofs.Sums.{is_zero, sum_at, sum, flow_diff, total_diff, sum_sent}
use Rattle.line.proofs.Index.{net_at, start, numbers, each_at, each_from, each_by_at, each_by_from}
use Rattle.line.proofs.WayFlow.{Valid, closed_near}
use Rattle.line.proofs.Cheap.{near_plain, far_plain}
use Rattle.line.proofs.Duality.{fair_plain}
use Rattle.line.proofs.Bools.{flip}

-- ---- definitions

abbrev pub turn_ways : Ways → Ways
turn_ways w = record { sends = w.takes; takes = w.sends }

abbrev pub turn_mark : ℕ → ℕ
turn_mark zero = 0
turn_mark (suc zero) = 2
turn_mark (suc (suc zero)) = 1
turn_mark (suc (suc (suc k))) = suc (suc (suc k))

abbrev pub turn : Card → Card
turn c = record { modules = c.modules; mark = λ m. turn_mark (c.mark m); nets = c.nets }

abbrev pub negs : List ℤ → List ℤ
negs xs = map neg_ℤ xs

-- s is what a search from the meters reaches: it holds them, no step leaves it, and it lies inside every such side
pub record Reached (w : Ways) (c : Card) (xs : List ℤ) (s : Side) : Type 0 where
  pub meters : (m : ℕ) → m < c.modules → c.mark m ≡ 1 → T (s m)
  pub closed : ClosedBy w c s xs
  pub inside : (t : Side) → ((m : ℕ) → m < c.modules → c.mark m ≡ 1 → T (t m)) → ClosedBy w c t xs → Inside c s t

-- ---- numbers turned

pub neg_sent : (z : ℤ) → sent (neg_ℤ z) ≡ taken z
neg_sent (pos zero) = refl
neg_sent (pos (suc n)) = refl
neg_sent (negsuc n) = refl

pub neg_taken : (z : ℤ) → taken (neg_ℤ z) ≡ sent z
neg_taken (pos zero) = refl
neg_taken (pos (suc n)) = refl
neg_taken (negsuc n) = refl

pub get_or-negs : (xs : List ℤ) (i : ℕ) → get_or (negs xs) i (pos 0) ≡ neg_ℤ (get_or xs i (pos 0))
get_or-negs xs i = get_or-map neg_ℤ xs i (pos 0)

pub sent-negs : (xs : List ℤ) (i : ℕ) → sent (get_or (negs xs) i (pos 0)) ≡ taken (get_or xs i (pos 0))
sent-negs xs i = ap sent (get_or-negs xs i) ∙ neg_sent (get_or xs i (pos 0))

pub taken-negs : (xs : List ℤ) (i : ℕ) → taken (get_or (negs xs) i (pos 0)) ≡ sent (get_or xs i (pos 0))
taken-negs xs i = ap taken (get_or-negs xs i) ∙ neg_taken (get_or xs i (pos 0))

take-negs : (k : ℕ) (xs : List ℤ) → take k (negs xs) ≡ negs (take k xs)
take-negs zero xs = refl
take-negs (suc k) [] = refl
take-negs (suc k) (x ∷ xs) = ap (λ (l : List ℤ). neg_ℤ x ∷ l) (take-negs k xs)

drop-negs : (k : ℕ) (xs : List ℤ) → drop k (negs xs) ≡ negs (drop k xs)
drop-negs zero xs = refl
drop-negs (suc k) [] = refl
drop-negs (suc k) (x ∷ xs) = drop-negs k xs

pub numbers-negs : (ns : List Net) (xs : List ℤ) (e : ℕ) → numbers ns (negs xs) e ≡ negs (numbers ns xs e)
numbers-negs ns xs e = ap (take (length (net_at ns e).pins)) (drop-negs (start ns e) xs) ∙ take-negs (length (net_at ns e).pins) (drop (start ns e) xs)

sum-negs : (f g : ℤ → ℕ) → ((z : ℤ) → f (neg_ℤ z) ≡ g z) → (xs : List ℤ) → sum f (negs xs) ≡ sum g xs
unfolding sum
sum-negs f g h [] = refl
sum-negs f g h (x ∷ xs) = rw (h x, sum-negs f g h xs)

sum_at-negs : (f g : ℤ → ℕ) → ((z : ℤ) → f (neg_ℤ z) ≡ g z) → (s : Side) (ps : List ℕ) (xs : List ℤ) → sum_at f s ps (negs xs) ≡ sum_at g s ps xs
unfolding sum_at
sum_at-negs f g h s [] xs = refl
sum_at-negs f g h s (p ∷ ps) [] = refl
sum_at-negs f g h s (p ∷ ps) (x ∷ xs) = rw (h x, sum_at-negs f g h s ps xs)

pub total-negs : (xs : List ℤ) → total xs ≡ pos 0 → total (negs xs) ≡ pos 0
total-negs xs z =
    is_zero (total (negs xs)) (omega (arith, total_diff xs, total_diff (negs xs), sum-negs sent taken neg_sent xs, sum-negs taken sent neg_taken xs, ap sent z, ap taken z))

-- a net whose numbers add to 0 sends what it takes
pub total_sent-negs : (xs : List ℤ) → total xs ≡ pos 0 → total_sent (negs xs) ≡ total_sent xs
total_sent-negs xs z = omega (arith, total_diff xs, sum-negs sent taken neg_sent xs, sum_sent xs, sum_sent (negs xs), ap sent z, ap taken z)

flow_negs : (s : Side) (ps : List ℕ) (xs : List ℤ) → flow_at s ps xs ≡ pos 0 → flow_at s ps (negs xs) ≡ pos 0
flow_negs s ps xs z =
    is_zero (flow_at s ps (negs xs)) (omega (arith, flow_diff s ps xs, flow_diff s ps (negs xs), sum_at-negs sent taken neg_sent s ps xs, sum_at-negs taken sent neg_taken s ps xs, ap sent z, ap taken z))

-- ---- steps turned

swap : {P Q R : Type 0} → P ⊎ (Q ⊎ R) → Q ⊎ (P ⊎ R)
swap (inl h) = inr (inl h)
swap (inr (inl h)) = inl h
swap (inr (inr h)) = inr (inr h)

pub turn_passes : (r q : ℕ → Bool) (n : Net) (ys : List ℤ) (a b d : ℕ) → total ys ≡ pos 0 → PassesBy q r n (negs ys) b a d → PassesBy r q n ys a b d
turn_passes r q n ys a b d z p = record { leave = rw (sent-negs ys a) at p.enter; enter = rw (taken-negs ys b) at p.leave; room = swap (rw (taken-negs ys b, sent-negs ys a, total_sent-negs ys z) at p.room) }

-- ---- cards and flows turned

mark_0 : (k : ℕ) → turn_mark k ≡ 0 → k ≡ 0
mark_0 zero e = refl
mark_0 (suc zero) e = absurd (omega arith)
mark_0 (suc (suc zero)) e = absurd (omega arith)
mark_0 (suc (suc (suc k))) e = absurd (omega arith)

pub mark_1 : (k : ℕ) → turn_mark k ≡ 1 → k ≡ 2
mark_1 zero e = absurd (omega arith)
mark_1 (suc zero) e = absurd (omega arith)
mark_1 (suc (suc zero)) e = refl
mark_1 (suc (suc (suc k))) e = absurd (omega arith)

mark_2 : (k : ℕ) → turn_mark k ≡ 2 → k ≡ 1
mark_2 zero e = absurd (omega arith)
mark_2 (suc zero) e = refl
mark_2 (suc (suc zero)) e = absurd (omega arith)
mark_2 (suc (suc (suc k))) e = absurd (omega arith)

mark_top : (k : ℕ) → k ≤ 2 → turn_mark k ≤ 2
mark_top zero l = lit≤ tt
mark_top (suc zero) l = lit≤ tt
mark_top (suc (suc zero)) l = lit≤ tt
mark_top (suc (suc (suc k))) l = l

pub valid_turn : (c : Card) → Valid c → Valid (turn c)
valid_turn c v = record { pins = v.pins; marks = λ m l. mark_top (c.mark m) (v.marks m l) }

module _ (w : Ways) (c : Card) (xs : List ℤ) where
  pub fair_turn : FairBy w c xs → FairBy (turn_ways w) (turn c) (negs xs)
  fair_turn f = record {
    fair = record {
      nets = each_from NetRule c.nets (negs xs) (λ e l. rw (numbers-negs c.nets xs e) (rule (net_at c.nets e) (numbers c.nets xs e) (each_at NetRule c.nets xs f.fair.nets e l)));
      modules = λ m l z. flow_negs (only m) (all_pins c.nets) xs (f.fair.modules m l (mark_0 (c.mark m) z));
    };
    roles =
        each_by_from (λ e. NetRoles (w.takes e) (w.sends e)) c.nets (negs xs)
        (λ e l. rw (numbers-negs c.nets xs e) (role (w.sends e) (w.takes e) (net_at c.nets e) (numbers c.nets xs e) (each_by_at (λ e. NetRoles (w.sends e) (w.takes e)) c.nets xs f.roles e l)));
  }
    where
      rule : (n : Net) (ys : List ℤ) → NetRule n ys → NetRule n (negs ys)
      rule n ys r = record { zero = total-negs ys r.zero; fits = rw (total_sent-negs ys r.zero) r.fits }

      role : (r q : ℕ → Bool) (n : Net) (ys : List ℤ) → NetRoles r q n ys → NetRoles q r n (negs ys)
      role r q n ys k = record { sends = λ i h. k.takes i (rw (sent-negs ys i) at h); takes = λ i h. k.sends i (rw (taken-negs ys i) at h) }

  -- a step that would leave the outside of s on the turned card would leave s on this one
  pub closed_turn : (s : Side) → EachNet NetRule c.nets xs → ClosedBy w c s xs → ClosedBy (turn_ways w) (turn c) (outside s) (negs xs)
  closed_turn s rules k =
      each_by_from (λ e. NetKeepsBy (w.takes e) (w.sends e) (outside s)) c.nets (negs xs)
      (λ e l. rw (numbers-negs c.nets xs e)
      (net (w.sends e) (w.takes e) (net_at c.nets e) (numbers c.nets xs e) (each_at NetRule c.nets xs rules e l).zero
      (each_by_at (λ e. NetKeepsBy (w.sends e) (w.takes e) s) c.nets xs k e l)))
    where
      contra : (p q : Bool) → (T p → T q) → T (not q) → T (not p)
      contra true true f t = t
      contra true false f t = absurd (f tt)
      contra false q f t = tt

      net : (r q : ℕ → Bool) (n : Net) (ys : List ℤ) → total ys ≡ pos 0 → NetKeepsBy r q s n ys → NetKeepsBy q r (outside s) n (negs ys)
      net r q n ys z k b a lb la t p = contra (s (get_or n.pins a 0)) (s (get_or n.pins b 0)) (λ h. k a b la lb h (turn_passes r q n ys a b 1 z p)) t

-- ---- prices turned

T_nn : (b : Bool) → T b → T (not (not b))
T_nn true t = t
T_nn false t = t

pub cost_turn : (r q : ℕ → Bool) (s : Side) (n : Net) → cost_by q r (outside s) n ≡ cost_by r q s n
unfolding cost_by crosses_by
cost_turn r q s n =
    ap (λ (b : Bool). cond b n.weight 0)
    (ap (λ (b : Bool). meets q (outside s) n.pins && b) (meets_same r (outside (outside s)) s n.pins (λ m _. not-not (s m))) ∙ and_comm (meets q (outside s) n.pins) (meets r s n.pins))

pub price_turn : (w : Ways) (ns : List Net) (s : Side) → price_by (turn_ways w) ns (outside s) ≡ price_by w ns s
unfolding price_by
price_turn w [] s = refl
price_turn w (n ∷ ns) s = rw (cost_turn (w.sends 0) (w.takes 0) s n, price_turn (later w) ns s)

pub price_turn' : (w : Ways) (ns : List Net) (s : Side) → price_by (turn_ways w) ns s ≡ price_by w ns (outside s)
price_turn' w ns s = sym (price_turn (turn_ways w) ns s)

module _ (c : Card) where
  pub separates_turn : (s : Side) → Separates c s → Separates (turn c) (outside s)
  separates_turn s p = record { meters = λ m l e. p.makers m l (mark_1 (c.mark m) e); makers = λ m l e. T_nn (s m) (p.meters m l (mark_2 (c.mark m) e)) }

  pub turn_separates : (s : Side) → Separates (turn c) s → Separates c (outside s)
  turn_separates s p = record { meters = λ m l e. p.makers m l (ap turn_mark e); makers = λ m l e. T_nn (s m) (p.meters m l (ap turn_mark e)) }

module _ (w : Ways) (c : Card) where
  cheapest_turn : (s : Side) → CheapestBy w c s → CheapestBy (turn_ways w) (turn c) (outside s)
  cheapest_turn s p = record {
    separates = separates_turn c s p.separates;
    least = λ t q. omega (arith, price_turn w c.nets s, price_turn' w c.nets t, p.least (outside t) (turn_separates c t q));
  }

  turn_cheapest : (s : Side) → CheapestBy (turn_ways w) (turn c) s → CheapestBy w c (outside s)
  turn_cheapest s p = record {
    separates = turn_separates c s p.separates;
    least = λ t q. omega (arith, price_turn' w c.nets s, price_turn w c.nets t, p.least (outside t) (separates_turn c t q));
  }

  -- what lies outside the near side of the turned card is the far side
  pub turn_near : (s : Side) → NearBy (turn_ways w) (turn c) s → FarBy w c (outside s)
  turn_near s p = record {
    cheapest = turn_cheapest s p.cheapest;
    holds = λ t q m l h. flip (s m) (t m) (p.inside (outside t) (cheapest_turn t q) m l) h;
  }

-- ---- what a search gives

module _ (w : Ways) (c : Card) (valid : Valid c) (xs : List ℤ) (f : FairBy w c xs) where
  -- forwards: if it meets no maker, it is the near side
  pub reached_near : (s : Side) → Reached w c xs s → ((m : ℕ) → m < c.modules → c.mark m ≡ 2 → T (not (s m))) → NearBy w c s
  reached_near s r no_maker = closed_near w c valid xs f s (record { meters = r.meters; makers = no_maker }) r.closed r.inside

  module _ (s : Side) (p : Separates c s) (k : ClosedBy w c s xs) (t : Side) (back : Reached (turn_ways w) (turn c) (negs xs) t) where
    -- backwards, once some side that separates is closed, it meets no meter
    pub reached_apart : (m : ℕ) → m < c.modules → T (t m) → T (not (s m))
    reached_apart = back.inside (outside s) (λ m l e. p.makers m l (mark_1 (c.mark m) e)) (closed_turn w c xs s f.fair.nets k)

    -- and what it does not reach is the far side
    pub reached_far : FarBy w c (outside t)
    reached_far =
        turn_near w c t
        (closed_near (turn_ways w) (turn c) (valid_turn c valid) (negs xs) (fair_turn w c xs f) t
        (record { meters = back.meters; makers = λ m l e. flip (t m) (s m) (reached_apart m l) (p.meters m l (mark_2 (c.mark m) e)) }) back.closed back.inside)

-- the same in the page's words

module _ (c : Card) (valid : Valid c) (xs : List ℤ) (fair : Fair c xs) (s : Side) (r : Reached plainly c xs s) (no_maker : (m : ℕ) → m < c.modules → c.mark m ≡ 2 → T (not (s m))) where
  pub search_near : Near c s
  search_near = near_plain c s (reached_near plainly c valid xs (fair_plain c xs fair) s r no_maker)

  pub search_far : (t : Side) → Reached plainly (turn c) (negs xs) t → Far c (outside t)
  search_far t back = far_plain c (outside t) (reached_far plainly c valid xs (fair_plain c xs fair) s (record { meters = r.meters; makers = no_maker }) r.closed t back)
