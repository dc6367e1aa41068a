-- A round depends on marks and sides below the number of modules alone, takes a free module and leaves fewer free (`round_less`), so that there are at most f + 1 rounds (`walks_rounds`).
-- Assumes nothing.
use Rattle.std.specs.Prelude.{◌≡◌, ℕ, suc, ◌+◌, ◌<◌, ◌≤◌, Bool, true, false, cond, not, ◌&&◌, ◌||◌, T, eqb, List, [], ◌∷◌, ◌++◌, length, take, Option, Some, None}
use mathlib.Core.Path.{refl, sym, ap, ◌∙◌}
use mathlib.Core.Bool.{or-false, or_assoc}
use mathlib.Core.List.Memᴰ
use mathlib.Core.List.{Memᴰ}
use native.Mathlib.Omega.{arith}
use lib.Seq.{take-suc}
use lib.Dec.{eqb→eq, eqb_refl, not_T}
use Rattle.line.specs.Card.{Net, Card, Side, outside, either, touches, crosses, price, all_pins, Near, area_to, Alike, remark, pin}
use Rattle.line.specs.Flow.{only}
use Rattle.line.proofs.Area.{area_to_same, count_less}
use Rattle.book.proofs.Firsts.{lowest_some, lowest_same}
use Rattle.line.proofs.Index.{net_at, no_net}
use Rattle.line.proofs.Bools.{and_l, and_r}
use Rattle.line.proofs.Price.{touches_same}
use Rattle.line.proofs.Cheap.{Tightens, pin_to, pin_from, meter_tightens, maker_tightens, near_stays, near_one, cheapest_price}
use Rattle.line.proofs.Duality.{Valid}
use Rattle.book.specs.First.{or_else, lowest}
use Rattle.gate.specs.declared.Verdict.{Verdict}
use Rattle.gate.specs.declared.Verdict.TheVariants.{Below, Within, Above}
use Rattle.walk.specs.Walk.{Way, Meter, Maker, Turn, Stops, Takes, on_cut, free_in, choice, decide, turn, number, row, after, free, free_to, Row, Outcome, Walks, stop, go, end}

-- ---- what agrees below n

pub crosses_same : (s t : Side) (n : Net) → ((m : ℕ) → Memᴰ m n.pins → s m ≡ t m) → crosses s n ≡ crosses t n
unfolding crosses
crosses_same s t n f = rw (touches_same s t n.pins f, touches_same (outside s) (outside t) n.pins (λ m h. ap not (f m h)))

pub on_cut_same : (ns : List Net) (s t : Side) → ((m : ℕ) → Memᴰ m (all_pins ns) → s m ≡ t m) → (m : ℕ) → on_cut ns s m ≡ on_cut ns t m
unfolding on_cut all_pins
on_cut_same [] s t f m = refl
on_cut_same (n ∷ ns) s t f m =
    rw (crosses_same s t n (λ i h. f i (Memᴰ.append_left (all_pins ns) h)), on_cut_same ns s t (λ i h. f i (Memᴰ.append_right n.pins h)) m)

-- one net more, as a loop goes
pub on_cut-suc : (ns : List Net) (x : Side) (m e : ℕ) → e < length ns →
    on_cut (take (suc e) ns) x m ≡ (on_cut (take e ns) x m || (crosses x (net_at ns e) && touches (only m) (net_at ns e).pins))
unfolding on_cut
on_cut-suc ns x m e l = rw (take-suc ns e no_net) (at_end (take e ns))
  where
    at_end : (ms : List Net) → on_cut (ms ++ (net_at ns e ∷ [])) x m ≡ (on_cut ms x m || (crosses x (net_at ns e) && touches (only m) (net_at ns e).pins))
    at_end [] = or-false (crosses x (net_at ns e) && touches (only m) (net_at ns e).pins)
    at_end (n ∷ ms) =
        rw (at_end ms)
        (sym (or_assoc (crosses x n && touches (only m) n.pins) (on_cut ms x m) (crosses x (net_at ns e) && touches (only m) (net_at ns e).pins)))

-- ---- the module taken

-- the module is in y, and free
pub record Taken (c : Card) (k : ℕ → ℕ) (y : Side) (m : ℕ) : Type 0 where
  pub under : m < c.modules
  pub chosen : T (y m)
  pub free : k m ≡ 0

free_taken : (c : Card) (k : ℕ → ℕ) (y : Side) (m : ℕ) → m < c.modules → T (free_in k y m) → Taken c k y m
free_taken c k y m l t = record { under = l; chosen = and_l (y m) (eqb (k m) 0) t; free = eqb→eq (k m) 0 (and_r (y m) (eqb (k m) 0) t) }

pub choice_taken : (c : Card) (k : ℕ → ℕ) (x y : Side) (m : ℕ) → choice c k x y ≡ Some m → Taken c k y m
unfolding choice
choice_taken c k x y m = go (lowest (λ m. free_in k y m && on_cut c.nets x m) c.modules) refl
  where
    go : (o : Option ℕ) → lowest (λ m. free_in k y m && on_cut c.nets x m) c.modules ≡ o → or_else o (lowest (free_in k y) c.modules) ≡ Some m → Taken c k y m
    go None e h = let q = lowest_some (free_in k y) c.modules m h in free_taken c k y m q.under q.passes
    go (Some i) e h =
        let q = lowest_some (λ m. free_in k y m && on_cut c.nets x m) c.modules m (e ∙ h) in
        free_taken c k y m q.under (and_l (free_in k y m) (on_cut c.nets x m) q.passes)

-- the side from which a way takes its module
abbrev pub from : Way → Side → Side
from Meter x = outside x
from Maker x = x

module _ (c : Card) (area : ℕ → ℕ) (v : ℕ → Verdict) (k : ℕ → ℕ) (x : Side) where
  pub turn_taken : (w : Way) (m : ℕ) → turn c area v k x ≡ Takes w m → Taken c k (from w x) m
  unfolding turn
  turn_taken w m = go (v (area_to area x c.modules)) (choice c k x (outside x)) (choice c k x x) refl refl w
    where
      clash : {w w' : Way} {m m' : ℕ} → Takes w m ≡ Takes w' m' → m ≡ m'
      clash e = cc

      go : (a : Verdict) (o i : Option ℕ) → choice c k x (outside x) ≡ o → choice c k x x ≡ i → (w : Way) → decide a o i ≡ Takes w m → Taken c k (from w x) m
      go Below None i p q w h = let z : ◌≡◌ {A = ℕ} 0 1 = cc in absurd (omega arith)
      go Below (Some n) i p q Meter h = choice_taken c k x (outside x) m (p ∙ ap Some (clash h))
      go Below (Some n) i p q Maker h = let z : ◌≡◌ {A = ℕ} 0 1 = cc in absurd (omega arith)
      go Within o i p q w h = let z : ◌≡◌ {A = ℕ} 0 1 = cc in absurd (omega arith)
      go Above o None p q w h = let z : ◌≡◌ {A = ℕ} 0 1 = cc in absurd (omega arith)
      go Above o (Some n) p q Meter h = let z : ◌≡◌ {A = ℕ} 0 1 = cc in absurd (omega arith)
      go Above o (Some n) p q Maker h = choice_taken c k x x m (q ∙ ap Some (clash h))

  -- it stops only where the gate takes the area
  pub turn_within : turn c area v k x ≡ Stops → v (area_to area x c.modules) ≡ Within
  unfolding turn
  turn_within = go (v (area_to area x c.modules)) (choice c k x (outside x)) (choice c k x x)
    where
      go : (a : Verdict) (o i : Option ℕ) → decide a o i ≡ Stops → a ≡ Within
      go Below None i e = let z : ◌≡◌ {A = ℕ} 0 1 = cc in absurd (omega arith)
      go Below (Some m) i e = let z : ◌≡◌ {A = ℕ} 0 1 = cc in absurd (omega arith)
      go Within o i e = refl
      go Above o None e = let z : ◌≡◌ {A = ℕ} 0 1 = cc in absurd (omega arith)
      go Above o (Some m) e = let z : ◌≡◌ {A = ℕ} 0 1 = cc in absurd (omega arith)

-- ---- the marks after

pub pin_takes : (n : ℕ) (y : Side) (k : ℕ → ℕ) (m : ℕ) → T (y m) → k m ≡ 0 → pin n y k m ≡ n
unfolding pin
pin_takes n y k m t z = go (y m) t
  where
    go : (b : Bool) → T b → cond (b && eqb (k m) 0) n (k m) ≡ n
    go true t = rw z
    go false t = absurd t

pub pin_same : (n : ℕ) (s t : Side) (j k : ℕ → ℕ) (m : ℕ) → s m ≡ t m → j m ≡ k m → pin n s j m ≡ pin n t k m
unfolding pin
pin_same n s t j k m p q = rw (p, q)

or_self : (a : Bool) (m : ℕ) → T (a || eqb m m)
or_self true m = tt
or_self false m = eqb_refl m

module _ (w : Way) (m : ℕ) (x : Side) (k : ℕ → ℕ) where
  pub after_taken : k m ≡ 0 → after w m x k m ≡ number w
  after_taken z = go w
    where
      go : (w : Way) → after w m x k m ≡ number w
      go Meter = pin_takes 1 (either x (only m)) k m (or_self (x m) m) z
      go Maker = pin_takes 2 (either (outside x) (only m)) k m (or_self (not (x m)) m) z

  -- nothing is set free
  pub after_free : (i : ℕ) → after w m x k i ≡ 0 → k i ≡ 0
  after_free i = go w
    where
      go : (w : Way) → after w m x k i ≡ 0 → k i ≡ 0
      go Meter e = pin_from (λ n. n ≡ 0) 1 (either x (only m)) k i e (λ z. omega arith)
      go Maker e = pin_from (λ n. n ≡ 0) 2 (either (outside x) (only m)) k i e (λ z. omega arith)

  pub after_three : (i : ℕ) → k i ≤ 2 → after w m x k i ≤ 2
  after_three i h = go w
    where
      go : (w : Way) → after w m x k i ≤ 2
      go Meter = pin_to (λ n. n ≤ 2) 1 (either x (only m)) k i (λ _ _. omega arith) h
      go Maker = pin_to (λ n. n ≤ 2) 2 (either (outside x) (only m)) k i (λ _ _. omega arith) h

  -- meters and makers are only added
  pub after_tightens : (c : Card) → Tightens (remark c k) k (after w m x k)
  after_tightens c = go w
    where
      go : (w : Way) → Tightens (remark c k) k (after w m x k)
      go Meter = meter_tightens (remark c k) (either x (only m))
      go Maker = maker_tightens (remark c k) (either (outside x) (only m))

pub after_same : (w : Way) (m n : ℕ) (x y : Side) (j k : ℕ → ℕ) → Alike n x y → Alike n j k → Alike n (after w m x j) (after w m y k)
after_same Meter m n x y j k p q i l = pin_same 1 (either x (only m)) (either y (only m)) j k i (rw (p i l)) (q i l)
after_same Maker m n x y j k p q i l = pin_same 2 (either (outside x) (only m)) (either (outside y) (only m)) j k i (rw (p i l)) (q i l)

pub after_valid : (c : Card) (w : Way) (m : ℕ) (x : Side) (k : ℕ → ℕ) → Valid (remark c k) → Valid (remark c (after w m x k))
after_valid c w m x k q = record { pins = q.pins; marks = λ i l. after_three w m x k i (q.marks i l) }

-- ---- the free modules

pub free_to_same : (j k : ℕ → ℕ) (n : ℕ) → Alike n j k → free_to j n ≡ free_to k n
free_to_same j k n e = area_to_same (λ m. 1) (free j) (free k) n (λ m l. rw (e m l))

-- a round that goes on leaves fewer free
pub round_less : (c : Card) (area : ℕ → ℕ) (v : ℕ → Verdict) (k : ℕ → ℕ) (x : Side) (w : Way) (m : ℕ) → turn c area v k x ≡ Takes w m →
    free_to (after w m x k) c.modules < free_to k c.modules
round_less c area v k x w m e =
    let q = turn_taken c area v k x w m e in
    count_less (free (after w m x k)) (free k) c.modules m (λ i t. rw (after_free w m x k i (eqb→eq (after w m x k i) 0 t)) tt) q.under (rw q.free tt)
    (not_T (free (after w m x k) m) (λ t. some_number w (sym (after_taken w m x k q.free) ∙ eqb→eq (after w m x k m) 0 t)))
  where
    some_number : (w : Way) → number w ≡ 0 → ⊥
    some_number Meter e = omega arith
    some_number Maker e = omega arith

-- ---- two near sides for the same marks: the same in all that a round looks at

module _ (c : Card) (j k : ℕ → ℕ) (e : Alike c.modules j k) where
  pub near_same : (x : Side) → Near (remark c j) x → Near (remark c k) x
  near_same x p =
      near_stays c j k (record { meters = λ m l h. sym (e m l) ∙ h; makers = λ m l h. sym (e m l) ∙ h }) x
      (record { meters = λ m l h. p.cheapest.separates.meters m l (e m l ∙ h); makers = λ m l h. p.cheapest.separates.makers m l (e m l ∙ h) })
      p

pub record Meet (c : Card) (area : ℕ → ℕ) (j k : ℕ → ℕ) (x y : Side) : Type 0 where
  pub side : Alike c.modules x y
  pub prices : price c.nets x ≡ price c.nets y
  pub areas : area_to area x c.modules ≡ area_to area y c.modules
  pub out : choice c j x (outside x) ≡ choice c k y (outside y)
  pub inn : choice c j x x ≡ choice c k y y

module _ (c : Card) (valid : Valid c) (area : ℕ → ℕ) (j k : ℕ → ℕ) (e : Alike c.modules j k) where
  pub choice_same : (x y s t : Side) → Alike c.modules x y → Alike c.modules s t → choice c j x s ≡ choice c k y t
  unfolding choice
  choice_same x y s t p q =
      rw (
        lowest_same (λ m. free_in j s m && on_cut c.nets x m) (λ m. free_in k t m && on_cut c.nets y m) c.modules
            (λ m l. rw (q m l, e m l, on_cut_same c.nets x y (λ i h. p i (valid.pins i h)) m)),
        lowest_same (free_in j s) (free_in k t) c.modules (λ m l. rw (q m l, e m l)),
      )

  pub meet : (x y : Side) → Near (remark c j) x → Near (remark c k) y → Meet c area j k x y
  meet x y p q =
      let n = near_same c j k e x p in
      let a = near_one (remark c k) x y n q in
      record {
        side = a;
        prices = cheapest_price (remark c k) x y n.cheapest q.cheapest;
        areas = area_to_same area x y c.modules a;
        out = choice_same x y (outside x) (outside y) a (λ m l. ap not (a m l));
        inn = choice_same x y x y a a;
      }

module _ (c : Card) (area : ℕ → ℕ) (j k : ℕ → ℕ) (x y : Side) (q : Meet c area j k x y) where
  pub turn_same : (v : ℕ → Verdict) → turn c area v j x ≡ turn c area v k y
  unfolding turn
  turn_same v = rw (q.areas, q.out, q.inn)

  pub row_same : (t : Turn) → row c area x t ≡ row c area y t
  row_same t = rw (q.prices, q.areas)

-- ---- with f free modules there are at most f + 1 rounds

module _ (c : Card) (area : ℕ → ℕ) (v : ℕ → Verdict) where
  pub walks_rounds : {k : ℕ → ℕ} {rs : List Row} {o : Outcome} → Walks c area v k rs o → length rs ≤ free_to k c.modules + 1
  walks_rounds (stop x p e) = omega arith
  walks_rounds {k} (go x w m p e a) = omega (arith, walks_rounds a, round_less c area v k x w m e)
  walks_rounds (end x p e) = omega arith
