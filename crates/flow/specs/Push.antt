-- Pushing along the way back from a maker to a meter: how much a step and a way can carry, and what is left of a way. This page holds definitions only.
use Rattle.std.specs.Prelude.{◌≡◌, ◌≢◌, cond, List, ℕ, zero, suc, ◌+◌, ◌-◌, ◌≤◌, ◌<◌, min, length, get_or, ℤ, pos, neg_ℤ, ◌+ℤ◌, eqb}
use Rattle.line.specs.Card.{Card}
use Rattle.line.specs.Flow.{sent, taken, EachNet, NetRule}
use Rattle.line.proofs.Ways.{plainly}
use Rattle.line.proofs.Index.{net_at}
use Rattle.line.proofs.WayFlow.{Valid}
use Rattle.line.proofs.Path.{LeadsBack, Ready, push_all}
use Rattle.line.proofs.Tree.{walk}
use Rattle.flow.specs.Search.{In, rank, left, kind, entered}
use Rattle.flow.specs.Cards.{Small, Grid, Sums, up_of}

-- how much the step that the number x tells can carry
abbrev pub room_at : List ℕ → List ℕ → List ℕ → List ℤ → ℕ → ℕ
room_at ws nt sm fl x =
    cond (eqb (kind x) 1) (taken (get_or fl (left x) (pos 0))) (cond (eqb (kind x) 2) (sent (get_or fl (entered x) (pos 0))) (get_or ws (get_or nt (left x) 0) 0 - get_or sm (get_or nt (left x) 0) 0))

-- the least of them on the way from u back to a meter
unfoldable pub way_room : List ℕ → List ℕ → List ℕ → List ℕ → List ℕ → List ℕ → List ℤ → ℕ → ℕ → ℕ
way_room ms ws nt mk w sm fl zero u = 65535
way_room ms ws nt mk w sm fl (suc k) u =
    cond (eqb (get_or mk u 0) 1) 65535 (min (room_at ws nt sm fl (get_or w u 0)) (way_room ms ws nt mk w sm fl k (get_or ms (left (get_or w u 0)) 0)))

-- a module that was reached, and is no meter, was reached by two pins from a module of lower rank
pub record Trod (ms nt w : List ℕ) (N m : ℕ) : Type 0 where
  pub in_left : left (get_or w m 0) < length ms
  pub in_entered : entered (get_or w m 0) < length ms
  pub net : get_or nt (left (get_or w m 0)) 0 < N
  pub same : get_or nt (entered (get_or w m 0)) 0 ≡ get_or nt (left (get_or w m 0)) 0
  pub from : In w (get_or ms (left (get_or w m 0)) 0)
  pub lower : rank (get_or w (get_or ms (left (get_or w m 0)) 0) 0) < rank (get_or w m 0)

pub record Trail (ms nt mk w : List ℕ) (N : ℕ) : Type 0 where
  pub lenw : length w ≡ length mk
  pub nts : length nt ≡ length ms
  pub few : length ms < 16384
  pub ranks : (m : ℕ) → In w m → rank (get_or w m 0) ≤ length mk
  pub step : (m : ℕ) → In w m → get_or mk m 0 ≢ 1 → Trod ms nt w N m

-- the numbers are small, and no net sends more than its weight
pub record Level (ms ws sm : List ℕ) (fl : List ℤ) : Type 0 where
  pub flows : length fl ≡ length ms
  pub sums : length sm ≡ length ws
  pub below : (e : ℕ) → e < length ws → get_or sm e 0 ≤ get_or ws e 0
  pub small : (p : ℕ) → p < length ms → Small (get_or fl p (pos 0))

-- what does not change on the way
pub record Ground (c : Card) (ms nt mk w : List ℕ) : Type 0 where
  pub grid : Grid c ms nt
  pub trail : Trail ms nt mk w (length c.nets)
  pub valid : Valid c
  pub modules : c.modules ≡ length mk
  pub mark : (m : ℕ) → c.mark m ≡ get_or mk m 0
  pub weights : (e : ℕ) → e < length c.nets → (net_at c.nets e).weight ≤ 65535

-- the way that is left, from u, and the flow on which d is still to be pushed along it
pub record Rest (c : Card) (ms nt w sm : List ℕ) (fl : List ℤ) (d k u : ℕ) : Type 0 where
  pub ready : Ready plainly c fl d (walk c (up_of c nt w) k u)
  pub leads : (h : ℕ) × (c.mark h ≡ 1) × LeadsBack c h (walk c (up_of c nt w) k u) u
  pub rules : EachNet NetRule c.nets fl
  pub sums : Sums c sm fl
  pub flows : length fl ≡ length ms
  pub from : In w u

abbrev pub pushed_all : Card → List ℕ → List ℕ → List ℤ → ℕ → ℕ → ℕ → List ℤ
pushed_all c nt w fl d k u = push_all c fl d (walk c (up_of c nt w) k u)

-- a push along the whole way
abbrev pub PushedWay : List ℕ → List ℕ → List ℕ → List ℕ → List ℕ → List ℤ → ℕ → ℕ → List ℕ → List ℤ → Type 0
PushedWay ms nt mk w sm fl d z sm' fl' =
    (c : Card) → Ground c ms nt mk w → Rest c ms nt w sm fl d (suc (length mk)) z → (fl' ≡ pushed_all c nt w fl d (suc (length mk)) z) × Sums c sm' fl'

-- some card shows that it is safe
abbrev pub MayPush : List ℕ → List ℕ → List ℕ → List ℕ → List ℕ → List ℤ → ℕ → ℕ → Type 0
MayPush ms nt mk w sm fl d z = (c : Card) × Ground c ms nt mk w × Rest c ms nt w sm fl d (suc (length mk)) z × (d ≤ 65535)

-- the sum of a net after a push of d from pin a to pin b
abbrev pub new_sum : List ℤ → ℕ → ℕ → ℕ → ℕ → ℕ
new_sum fl a b d s = s + (sent (get_or fl a (pos 0) +ℤ pos d) + sent (get_or fl b (pos 0) +ℤ neg_ℤ (pos d))) - (sent (get_or fl a (pos 0)) + sent (get_or fl b (pos 0)))

-- what one push needs
pub record Pushable (fl : List ℤ) (sm nt : List ℕ) (d a b : ℕ) : Type 0 where
  pub in_a : a < length fl
  pub in_b : b < length fl
  pub nts : length nt ≡ length fl
  pub few : length fl < 16384
  pub apart : a ≢ b
  pub amount : d ≤ 65535
  pub net : get_or nt a 0 < length sm
  pub small_a : Small (get_or fl a (pos 0))
  pub small_b : Small (get_or fl b (pos 0))
  pub sum : get_or sm (get_or nt a 0) 0 ≤ 65535
  pub held : sent (get_or fl a (pos 0)) + sent (get_or fl b (pos 0)) ≤ get_or sm (get_or nt a 0) 0
