-- The sides of least f, for any submodular f: closed under both and either; one near side and one far side; and what pinning does to them. Assumes nothing.
use mathlib.Core.Path.{◌≡◌, refl, sym}
use mathlib.Core.Bool.{Bool, true, false, not, cond, ◌&&◌}
use Prim.Native.Nat.{ℕ, ◌+◌, ◌≤◌, ◌<◌}
use native.Mathlib.Omega.{arith}
use native.Mathlib.Nat.{le_trans}
use lib.Dec.{T, eqb, eqb→eq, eqb_refl}
use Rattle.line.specs.Card.{Card, Side, both, either, Separates, Inside, Alike, remark, pin, to_meter, to_maker}
use Rattle.line.specs.Flow.{only}
use Rattle.line.proofs.Ways.{Best, Nearest, Farthest}
use Rattle.line.proofs.Bools.{and_r, and_mk, or_l, or_r, not_and_l, not_or_mk, T_same, T_true}

abbrev pub Submodular : (Side → ℕ) → Type 0
Submodular f = (s t : Side) → f (both s t) + f (either s t) ≤ f s + f t

-- ---- the cheapest, near and far sides depend on how many modules there are, on their marks and on the price of each side: on nothing else

pub record Same (c d : Card) (f g : Side → ℕ) : Type 0 where
  pub modules : c.modules ≡ d.modules
  pub marks : Alike c.modules c.mark d.mark
  pub prices : (s : Side) → f s ≡ g s

module _ {c d : Card} {f g : Side → ℕ} (e : Same c d f g) where
  pub same_back : Same d c g f
  same_back = record { modules = sym e.modules; marks = λ m l. sym (e.marks m (omega (arith, e.modules))); prices = λ s. sym (e.prices s) }

  pub separates_same : (s : Side) → Separates c s → Separates d s
  separates_same s p = record {
    meters = λ m l z. p.meters m (omega (arith, e.modules)) (omega (arith, e.modules, e.marks m (omega (arith, e.modules))));
    makers = λ m l z. p.makers m (omega (arith, e.modules)) (omega (arith, e.modules, e.marks m (omega (arith, e.modules))));
  }

module _ {c d : Card} {f g : Side → ℕ} (e : Same c d f g) (s : Side) where
  pub best_same : Best c f s → Best d g s
  best_same p = record { separates = separates_same e s p.separates; least = λ t q. omega (arith, e.prices s, e.prices t, p.least t (separates_same (same_back e) t q)) }

module _ {c d : Card} {f g : Side → ℕ} (e : Same c d f g) (s : Side) where
  pub nearest_same : Nearest c f s → Nearest d g s
  nearest_same p = record { cheapest = best_same e s p.cheapest; inside = λ t q m l. p.inside t (best_same (same_back e) t q) m (omega (arith, e.modules)) }

  pub farthest_same : Farthest c f s → Farthest d g s
  farthest_same p = record { cheapest = best_same e s p.cheapest; holds = λ t q m l. p.holds t (best_same (same_back e) t q) m (omega (arith, e.modules)) }

-- ---- the marks of a card, changed

-- from j to k meters are only added, and makers only taken away
pub record Rises (c : Card) (j k : ℕ → ℕ) : Type 0 where
  pub meters : (m : ℕ) → m < c.modules → j m ≡ 1 → k m ≡ 1
  pub makers : (m : ℕ) → m < c.modules → k m ≡ 2 → j m ≡ 2

-- from j to k meters and makers are only added
pub record Tightens (c : Card) (j k : ℕ → ℕ) : Type 0 where
  pub meters : (m : ℕ) → m < c.modules → j m ≡ 1 → k m ≡ 1
  pub makers : (m : ℕ) → m < c.modules → j m ≡ 2 → k m ≡ 2

-- what separates under tighter marks does so under looser ones
pub separates_loose : (c : Card) (j k : ℕ → ℕ) → Tightens c j k → (t : Side) → Separates (remark c k) t → Separates (remark c j) t
separates_loose c j k g t q = record { meters = λ m l e. q.meters m l (g.meters m l e); makers = λ m l e. q.makers m l (g.makers m l e) }

-- ---- pinning: the free modules of x get the mark k

-- what holds of k, if m is free and in x, and of the old mark, holds of the new one; and back
pub pin_to : (P : ℕ → Type 0) (k : ℕ) (x : Side) (mark : ℕ → ℕ) (m : ℕ) → (T (x m) → mark m ≡ 0 → P k) → P (mark m) → P (pin k x mark m)
unfolding pin
pin_to P k x mark m f h = go (x m) (eqb (mark m) 0) f (eqb→eq (mark m) 0)
  where
    go : (a b : Bool) → (T a → mark m ≡ 0 → P k) → (T b → mark m ≡ 0) → P (cond (a && b) k (mark m))
    go true true f e = f tt (e tt)
    go true false f e = h
    go false b f e = h

pub pin_from : (P : ℕ → Type 0) (k : ℕ) (x : Side) (mark : ℕ → ℕ) (m : ℕ) → P (pin k x mark m) → (P k → P (mark m)) → P (mark m)
unfolding pin
pin_from P k x mark m h f = go (x m && eqb (mark m) 0) h
  where
    go : (b : Bool) → P (cond b k (mark m)) → P (mark m)
    go true q = f q
    go false q = q

-- a free module v that is pinned by itself has the mark k
pub pinned : (k v : ℕ) (mark : ℕ → ℕ) → mark v ≡ 0 → pin k (only v) mark v ≡ k
unfolding pin
pinned k v mark z = rw (z, T_true (eqb v v) (eqb_refl v))

module _ (c : Card) (x : Side) where
  pub meter_tightens : Tightens c c.mark (to_meter c x)
  meter_tightens = record {
    meters = λ m l e. pin_to (λ n. n ≡ 1) 1 x c.mark m (λ _ _. refl) e;
    makers = λ m l e. pin_to (λ n. n ≡ 2) 1 x c.mark m (λ _ z. omega arith) e;
  }

  pub meter_rises : Rises c c.mark (to_meter c x)
  meter_rises = record { meters = meter_tightens.meters; makers = λ m l e. pin_from (λ n. n ≡ 2) 1 x c.mark m e (λ z. omega arith) }

  pub maker_tightens : Tightens c c.mark (to_maker c x)
  maker_tightens = record {
    meters = λ m l e. pin_to (λ n. n ≡ 1) 2 x c.mark m (λ _ z. omega arith) e;
    makers = λ m l e. pin_to (λ n. n ≡ 2) 2 x c.mark m (λ _ _. refl) e;
  }

  pub maker_rises : Rises c (to_maker c x) c.mark
  maker_rises = record { meters = λ m l e. pin_from (λ n. n ≡ 1) 2 x c.mark m e (λ z. omega arith); makers = maker_tightens.makers }

-- a side that separates still does after its own module was pinned to the meter, or another one to the maker
module _ (c : Card) (v : ℕ) (s : Side) (p : Separates c s) where
  meter_still : T (s v) → Separates (remark c (to_meter c (only v))) s
  meter_still i = record {
    meters = λ m l. pin_to (λ n. n ≡ 1 → T (s m)) 1 (only v) c.mark m (λ e _ _. rw (eqb→eq m v e) i) (p.meters m l);
    makers = λ m l e. p.makers m l ((meter_rises c (only v)).makers m l e);
  }

  maker_still : T (not (s v)) → Separates (remark c (to_maker c (only v))) s
  maker_still o = record {
    meters = λ m l e. p.meters m l ((maker_rises c (only v)).meters m l e);
    makers = λ m l. pin_to (λ n. n ≡ 2 → T (not (s m))) 2 (only v) c.mark m (λ e _ _. rw (eqb→eq m v e) o) (p.makers m l);
  }

-- ---- one card: there is one near side, one far side and one least price

module _ (f : Side → ℕ) (c : Card) (s t : Side) where
  pub near_one : Nearest c f s → Nearest c f t → Alike c.modules s t
  near_one p q m l = T_same (s m) (t m) (p.inside t q.cheapest m l) (q.inside s p.cheapest m l)

  pub far_one : Farthest c f s → Farthest c f t → Alike c.modules s t
  far_one p q m l = T_same (s m) (t m) (q.holds s p.cheapest m l) (p.holds t q.cheapest m l)

  pub cheapest_price : Best c f s → Best c f t → f s ≡ f t
  cheapest_price p q = omega (arith, p.least t q.separates, q.least s p.separates)

-- ---- marks that tighten: the price does not fall, and a near or far side that still separates stays what it was

module _ (f : Side → ℕ) (c : Card) (j k : ℕ → ℕ) (g : Tightens c j k) (s : Side) where
  pub price_rises : (t : Side) → Best (remark c j) f s → Best (remark c k) f t → f s ≤ f t
  price_rises t p q = p.least t (separates_loose c j k g t q.separates)

  module _ (still : Separates (remark c k) s) where
    -- a side cheapest under tighter marks was so under looser ones
    cheapest_was : Best (remark c j) f s → (t : Side) → Best (remark c k) f t → Best (remark c j) f t
    cheapest_was p t q = record { separates = separates_loose c j k g t q.separates; least = λ u a. le_trans (q.least s still) (p.least u a) }

    cheapest_stays : Best (remark c j) f s → Best (remark c k) f s
    cheapest_stays p = record { separates = still; least = λ u a. p.least u (separates_loose c j k g u a) }

    pub near_stays : Nearest (remark c j) f s → Nearest (remark c k) f s
    near_stays p = record { cheapest = cheapest_stays p.cheapest; inside = λ t q. p.inside t (cheapest_was p.cheapest t q) }

    pub far_stays : Farthest (remark c j) f s → Farthest (remark c k) f s
    far_stays p = record { cheapest = cheapest_stays p.cheapest; holds = λ t q. p.holds t (cheapest_was p.cheapest t q) }

module _ (f : Side → ℕ) (sub : Submodular f) where
  -- ---- marks that rise: the near side and the far side grow

  module _ (c : Card) (j k : ℕ → ℕ) (g : Rises c j k) (s t : Side) where
    separates_both : Separates (remark c j) s → Separates (remark c k) t → Separates (remark c j) (both s t)
    separates_both p q = record {
      meters = λ m l e. and_mk (s m) (t m) (p.meters m l e) (q.meters m l (g.meters m l e));
      makers = λ m l e. not_and_l (s m) (t m) (p.makers m l e);
    }

    separates_either : Separates (remark c j) s → Separates (remark c k) t → Separates (remark c k) (either s t)
    separates_either p q = record {
      meters = λ m l e. or_r (s m) (t m) (q.meters m l e);
      makers = λ m l e. not_or_mk (s m) (t m) (p.makers m l (g.makers m l e)) (q.makers m l e);
    }

    -- uncrossing: the common part is a cheapest side of the one, and the whole of the other
    cheapest_both : Best (remark c j) f s → Best (remark c k) f t → Best (remark c j) f (both s t)
    cheapest_both p q = record {
      separates = separates_both p.separates q.separates;
      least = λ u a. omega (arith, sub s t, p.least u a, q.least (either s t) (separates_either p.separates q.separates));
    }

    cheapest_either : Best (remark c j) f s → Best (remark c k) f t → Best (remark c k) f (either s t)
    cheapest_either p q = record {
      separates = separates_either p.separates q.separates;
      least = λ u a. omega (arith, sub s t, q.least u a, p.least (both s t) (separates_both p.separates q.separates));
    }

    pub near_rises : Nearest (remark c j) f s → Nearest (remark c k) f t → Inside c s t
    near_rises p q m l h = and_r (s m) (t m) (p.inside (both s t) (cheapest_both p.cheapest q.cheapest) m l h)

    pub far_rises : Farthest (remark c j) f s → Farthest (remark c k) f t → Inside c s t
    far_rises p q m l h = q.holds (either s t) (cheapest_either p.cheapest q.cheapest) m l (or_l (s m) (t m) h)

  -- ---- one card

  rises_refl : (c : Card) → Rises c c.mark c.mark
  rises_refl c = record { meters = λ m l e. e; makers = λ m l e. e }

  pub both_cheapest : (c : Card) (s t : Side) → Best c f s → Best c f t → Best c f (both s t)
  both_cheapest c = cheapest_both c c.mark c.mark (rises_refl c)

  pub either_cheapest : (c : Card) (s t : Side) → Best c f s → Best c f t → Best c f (either s t)
  either_cheapest c = cheapest_either c c.mark c.mark (rises_refl c)

  -- ---- one module v more is pinned to the meter: the near side s before, and t after

  module _ (c : Card) (v : ℕ) (s t : Side) (p : Nearest c f s) (q : Nearest (remark c (to_meter c (only v))) f t) where
    pub pin_holds : Inside c s t
    pin_holds = near_rises c c.mark (to_meter c (only v)) (meter_rises c (only v)) s t p q

    pub pin_in : v < c.modules → c.mark v ≡ 0 → T (t v)
    pin_in l z = q.cheapest.separates.meters v l (pinned 1 v c.mark z)

    pub pin_price : f s ≤ f t
    pin_price = price_rises f c c.mark (to_meter c (only v)) (meter_tightens c (only v)) s t p.cheapest q.cheapest

    module _ (already : T (s v)) where
      pin_stays : Nearest (remark c (to_meter c (only v))) f s
      pin_stays = near_stays f c c.mark (to_meter c (only v)) (meter_tightens c (only v)) s (meter_still c v s p.cheapest.separates already) p

      pub pin_same : Alike c.modules s t
      pin_same = near_one f (remark c (to_meter c (only v))) s t pin_stays q

      pub pin_same_price : f s ≡ f t
      pin_same_price = cheapest_price f (remark c (to_meter c (only v))) s t pin_stays.cheapest q.cheapest

  -- ---- and the mirror: to the maker, and the far side s before, and t after

  module _ (c : Card) (v : ℕ) (s t : Side) (p : Farthest c f s) (q : Farthest (remark c (to_maker c (only v))) f t) where
    pub pin_far_inside : Inside c t s
    pin_far_inside = far_rises c (to_maker c (only v)) c.mark (maker_rises c (only v)) t s q p

    pub pin_far_out : v < c.modules → c.mark v ≡ 0 → T (not (t v))
    pin_far_out l z = q.cheapest.separates.makers v l (pinned 2 v c.mark z)

    pub pin_far_price : f s ≤ f t
    pin_far_price = price_rises f c c.mark (to_maker c (only v)) (maker_tightens c (only v)) s t p.cheapest q.cheapest

    module _ (already : T (not (s v))) where
      pin_far_stays : Farthest (remark c (to_maker c (only v))) f s
      pin_far_stays = far_stays f c c.mark (to_maker c (only v)) (maker_tightens c (only v)) s (maker_still c v s p.cheapest.separates already) p

      pub pin_far_same : Alike c.modules s t
      pin_far_same = far_one f (remark c (to_maker c (only v))) s t pin_far_stays q

      pub pin_far_same_price : f s ≡ f t
      pin_far_same_price = cheapest_price f (remark c (to_maker c (only v))) s t pin_far_stays.cheapest q.cheapest
