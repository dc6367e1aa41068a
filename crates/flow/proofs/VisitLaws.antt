-- Visiting a module, pin by pin: each step that leaves by a pin ends at a module that is reached, and the number of a new one says by which step. Assumes nothing.
use mathlib.Core.Path.{◌≡◌, refl, sym, ap, ◌∙◌, subst}
use mathlib.Core.Bool.{Bool, true, false, not}
use mathlib.Core.Logic.{◌⊎◌, inl, inr, ⊎_elim}
use mathlib.Core.List.{List}
use Prim.Native.Nat.{ℕ, zero, suc, ◌+◌, ◌*◌, ◌≤◌, ◌<◌}
use native.Mathlib.Decide.{ℕ_discrete}
use native.Mathlib.Omega.{arith}
use lib.ListN.{length, get_or, set, length-set}
use lib.Seq.{get_or-set_same, get_or-set_other}
use lib.IntN.{ℤ}
use lib.Dec.{ltb}
use Rattle.flow.specs.Search.{or, gift, In, rank, left, kind, entered, Pin, Way, Hop, St, st, Grown, way_from, ViaNet, Spread, Kind, Enough, Visit, Seen, Marked, ViaHop, PinDone, PinsDone}
use Rattle.flow.proofs.Pins.{pins_more}
use Rattle.flow.proofs.Sets.{clash}
use Rattle.flow.proofs.Numbers.{above_true, true_above}
use Rattle.flow.proofs.SpreadLaws.{grows, grown-map, grown_trans}

-- ---- one pin

-- what the number of a new module says
pub record Read (a k b x : ℕ) : Type 0 where
  pub left : left x ≡ a
  pub kind : kind x ≡ k
  pub entered : entered x ≡ b

pub read : (a k b r x : ℕ) → a < 16384 → k ≤ 2 → b < 16384 → x ≡ r * 4294967296 + (a * 4 + k) * 65536 + b → Read a k b x
read a k b r x la lk lb e = record { left = omega arith; kind = omega arith; entered = omega arith }

way_of : (bk : Bool) (fl : List ℤ) (sum weight k a b : ℕ) (takes all : Bool) → takes ≡ ltb 0 (gift (not bk) fl a) → Kind sum weight takes k → (k ≡ 2 → all ≡ false) →
    or all (ltb 0 (gift bk fl b)) ≡ true → Way bk fl sum weight k a b
way_of bk fl sum weight k a b takes all et kd ea g = record {
  small = kd.small;
  room = kd.room;
  less = λ e. above_true (gift (not bk) fl a) (sym et ∙ kd.less e);
  back = λ e. above_true (gift bk fl b) (subst (λ (z : Bool). or z (ltb 0 (gift bk fl b)) ≡ true) (ea e) g);
}

-- a step to a pin that sends, whatever the kind of those to the others
way_back : (bk : Bool) (fl : List ℤ) (sum weight a b : ℕ) → 0 < gift bk fl b → Way bk fl sum weight 2 a b
way_back bk fl sum weight a b h = record { small = omega arith; room = λ e. absurd (omega arith); less = λ e. absurd (omega arith); back = λ _. h }

-- the kind of the step to pin b
abbrev kind_to : Bool → ℕ → ℕ
kind_to true k = 2
kind_to false k = k

or_right : (x : Bool) {y : Bool} → y ≡ true → or x y ≡ true
or_right true e = refl
or_right false e = e

last_kind : (k : ℕ) → k ≤ 2 → (k ≡ 0 → ⊥) → (k ≡ 1 → ⊥) → k ≡ 2
last_kind zero l p q = absurd (p refl)
last_kind (suc zero) l p q = absurd (q refl)
last_kind (suc (suc zero)) l p q = refl
last_kind (suc (suc (suc k))) l p q = absurd (omega arith)

-- where the steps that leave by pin a go to the pins that send alone
only_back : (bk : Bool) (fl : List ℤ) (sum weight k k' a b : ℕ) (takes : Bool) → takes ≡ ltb 0 (gift (not bk) fl a) → Kind sum weight takes k → k ≡ 2 → Way bk fl sum weight k' a b → 0 < gift bk fl b
only_back bk fl sum weight k k' a b takes et kd e w =
    let o = kd.only e in
    w.back (last_kind k' w.small (λ q. let x = w.room q in let y = o.0 in omega arith) (λ q. clash (true_above (gift (not bk) fl a) (w.less q)) (sym et ∙ o.1)))

-- a way by which the pin b is among those that are spread to
way_picks : (bk : Bool) (fl : List ℤ) (sum weight k k' a b : ℕ) (takes all : Bool) → takes ≡ ltb 0 (gift (not bk) fl a) → Kind sum weight takes k → ((k ≡ 2 → ⊥) → all ≡ true) →
    Way bk fl sum weight k' a b → or all (ltb 0 (gift bk fl b)) ≡ true
way_picks bk fl sum weight k k' a b takes all et kd ea w = go (ℕ_discrete k 2)
  where
    go : Dec (k ≡ 2) → or all (ltb 0 (gift bk fl b)) ≡ true
    go (no n) = rw (ea n)
    go (yes e) = or_right all (true_above (gift bk fl b) (only_back bk fl sum weight k k' a b takes et kd e w))

module _ (bk : Bool) (fs ms ws : List ℕ) (fl : List ℤ) (sm nt : List ℕ) (a k : ℕ) (takes : Bool) (v : Visit fs ms ws nt sm fl a)
    (et : takes ≡ ltb 0 (gift (not bk) fl a)) (kd : Kind (get_or sm (get_or nt a 0) 0) (get_or ws (get_or nt a 0) 0) takes k) where
  module _ (all : Bool) (ea : k ≡ 2 → all ≡ false) (eb : (k ≡ 2 → ⊥) → all ≡ true) (from undo r : ℕ) (ef : from ≡ (a * 4 + k) * 65536) (eu : undo ≡ (a * 4 + 2) * 65536) (r1 : k ≡ 2 → r ≡ 1) (r2 : (k ≡ 2 → ⊥) → r ≡ a + 2) where
    pub pin_spread : (s : St) (t : ℕ) (q w : List ℕ) (t' : ℕ) → Seen bk fs ms ws fl s.w s.sn → (Enough (get_or s.sn (get_or nt a 0) 0) k → ⊥) → get_or nt a 0 < length s.sn →
        Spread ms fl all bk from undo (get_or fs (get_or nt a 0) 0) (get_or fs (get_or nt a 0 + 1) 0) s.q s.w t q w t' →
        PinDone bk fs ms ws fl sm nt a s t (st q w (set s.sn (get_or nt a 0) r)) t'
    pin_spread s t q w t' seen ne ln sp = record {
      grown = grown-map via sp.grown;
      marked = record { len = length-set s.sn n r; kept = λ n' h. get_or-set_other s.sn n n' r 0 (λ e. ne (inl (subst (λ (i : ℕ). 1 < get_or s.sn i 0) e h))); opens = opens };
      seen = record { part = part; whole = whole };
      done = λ k' b h. sp.done b h.enters (way_picks bk fl _ _ k k' a b takes all et kd eb h.way);
    }
      where
        n : ℕ
        n = get_or nt a 0

        sn' : List ℕ
        sn' = set s.sn n r

        -- the number says pin a, the kind of the step, and the pin entered
        told : (m x : ℕ) → (y : ViaNet ms fl all bk from undo (get_or fs n 0) (get_or fs (n + 1) 0) m x) → (g : Bool) → x ≡ rank x * 4294967296 + way_from g from undo + y.at → Read a (kind_to g k) y.at x
        told m x y true e = read a 2 y.at (rank x) x (omega (arith, v.pin, v.few)) (omega arith) (omega (arith, y.pin.high, v.ends, v.few)) (e ∙ ap (λ (f : ℕ). rank x * 4294967296 + f + y.at) eu)
        told m x y false e = read a k y.at (rank x) x (omega (arith, v.pin, v.few)) kd.small (omega (arith, y.pin.high, v.ends, v.few)) (e ∙ ap (λ (f : ℕ). rank x * 4294967296 + f + y.at) ef)

        reads : (m x : ℕ) → (y : ViaNet ms fl all bk from undo (get_or fs n 0) (get_or fs (n + 1) 0) m x) → Read a (kind_to (ltb 0 (gift bk fl y.at)) k) y.at x
        reads m x y = told m x y (ltb 0 (gift bk fl y.at)) y.number

        way_to : (b : ℕ) (g : Bool) → (g ≡ true → 0 < gift bk fl b) → or all (ltb 0 (gift bk fl b)) ≡ true → Way bk fl (get_or sm n 0) (get_or ws n 0) (kind_to g k) a b
        way_to b true f g = way_back bk fl _ _ a b (f refl)
        way_to b false f g = way_of bk fl _ _ k a b takes all et kd ea g

        via : (m x : ℕ) → ViaNet ms fl all bk from undo (get_or fs n 0) (get_or fs (n + 1) 0) m x → ViaHop bk fs ms ws fl sm nt (get_or ms a 0) m x
        via m x y = let z = reads m x y in record {
          from = ap (λ (i : ℕ). get_or ms i 0) z.left;
          hop = rw (z.left, z.kind, z.entered) (record { leaves = v.on; enters = y.pin; small = v.net; way = way_to y.at (ltb 0 (gift bk fl y.at)) (above_true (gift bk fl y.at)) y.gives });
          to = ap (λ (i : ℕ). get_or ms i 0) z.entered ∙ y.to;
        }

        no_room : (g : Bool) → kind_to g k ≡ 0 → k ≡ 0
        no_room true e = absurd (omega arith)
        no_room false e = e

        opens : (m : ℕ) → In w m → In s.w m ⊎ (kind (get_or w m 0) ≡ 0 → get_or sn' (get_or nt (left (get_or w m 0)) 0) 0 ≡ left (get_or w m 0) + 2)
        opens m i = ⊎_elim inl
            (λ f. let z = reads m (get_or w m 0) f.how in
            inr (λ e. let q0 : k ≡ 0 = no_room (ltb 0 (gift bk fl f.how.at)) (sym z.kind ∙ e) in
            ap (λ (j : ℕ). get_or sn' (get_or nt j 0) 0) z.left ∙ get_or-set_same s.sn n r 0 ln ∙ r2 (λ q. absurd (omega arith)) ∙ ap (λ (j : ℕ). j + 2) (sym z.left)))
            (sp.grown.new m i)

        part : (n' : ℕ) → n' < length ws → 0 < get_or sn' n' 0 → (b : ℕ) → Pin (get_or fs n' 0) (get_or fs (n' + 1) 0) b → 0 < gift bk fl b → In w (get_or ms b 0)
        part n' l h b p g = go (ℕ_discrete n' n)
          where
            go : Dec (n' ≡ n) → In w (get_or ms b 0)
            go (yes e) = sp.done b (subst (λ (i : ℕ). Pin (get_or fs i 0) (get_or fs (i + 1) 0) b) e p) (or_right all (true_above (gift bk fl b) g))
            go (no e) = grows sp.grown (get_or ms b 0) (seen.part n' l (subst (λ (i : ℕ). 0 < i) (get_or-set_other s.sn n n' r 0 e) h) b p g)

        whole : (n' : ℕ) → n' < length ws → 1 < get_or sn' n' 0 → (b : ℕ) → Pin (get_or fs n' 0) (get_or fs (n' + 1) 0) b → In w (get_or ms b 0)
        whole n' l h b p = go (ℕ_discrete n' n)
          where
            go : Dec (n' ≡ n) → In w (get_or ms b 0)
            go (yes e) =
                let h' : 1 < r = subst (λ (i : ℕ). 1 < i) (ap (λ (i : ℕ). get_or sn' i 0) e ∙ get_or-set_same s.sn n r 0 ln) h in
                sp.done b (subst (λ (i : ℕ). Pin (get_or fs i 0) (get_or fs (i + 1) 0) b) e p)
                (rw (eb (λ q. let o = r1 q in absurd (omega arith))))
            go (no e) = grows sp.grown (get_or ms b 0) (seen.whole n' l (subst (λ (i : ℕ). 1 < i) (get_or-set_other s.sn n n' r 0 e) h) b p)

-- ---- one module

abbrev Opened : List ℕ → List ℕ → ℕ → Type 0
Opened nt sn x = kind x ≡ 0 → get_or sn (get_or nt (left x) 0) 0 ≡ left x + 2

pub marked_trans : {nt : List ℕ} {New : ℕ → ℕ → Type 0} {s₀ s₁ s₂ : St} {t₁ t₂ : ℕ} → Grown New s₁.q s₁.w t₁ s₂.q s₂.w t₂ → Marked nt s₀ s₁ → Marked nt s₁ s₂ → Marked nt s₀ s₂
marked_trans {nt} {New} {s₀} {s₁} {s₂} g m n = record {
  len = n.len ∙ m.len;
  kept = λ k h. let e = m.kept k h in n.kept k (omega arith) ∙ e;
  opens = λ i h. ⊎_elim (λ j. ⊎_elim inl (λ f. inr (old i j f)) (m.opens i j)) inr (n.opens i h);
}
  where
    old : (i : ℕ) → In s₁.w i → Opened nt s₁.sn (get_or s₁.w i 0) → Opened nt s₂.sn (get_or s₂.w i 0)
    old i j f = subst (λ (x : ℕ). kind x ≡ 0 → get_or s₂.sn (get_or nt (left x) 0) 0 ≡ left x + 2) (sym (g.kept i j))
        (λ e. let o = f e in n.kept (get_or nt (left (get_or s₁.w i 0)) 0) (omega arith) ∙ o)

module _ (bk : Bool) (fs ms ws : List ℕ) (fl : List ℤ) (sm nt at pl : List ℕ) where
  pub pins_step : {u lo i t₀ t₁ t₂ : ℕ} {s₀ s₁ s₂ : St} → PinsDone bk fs ms ws fl sm nt pl u lo i s₀ t₀ s₁ t₁ → get_or ms (get_or pl i 0) 0 ≡ u
      → PinDone bk fs ms ws fl sm nt (get_or pl i 0) s₁ t₁ s₂ t₂ → PinsDone bk fs ms ws fl sm nt pl u lo (i + 1) s₀ t₀ s₂ t₂
  pins_step {u} {lo} {i} {t₀} {t₁} {t₂} {s₀} {s₁} {s₂} d e p = record {
    grown = grown_trans d.grown (subst (λ (v : ℕ). Grown (ViaHop bk fs ms ws fl sm nt v) s₁.q s₁.w t₁ s₂.q s₂.w t₂) e p.grown);
    marked = marked_trans p.grown d.marked p.marked;
    seen = p.seen;
    done = pins_more (λ (j : ℕ). (k b : ℕ) → Hop bk fs ws fl sm nt k (get_or pl j 0) b → In s₂.w (get_or ms b 0)) lo i
        (λ j q k b h. grows p.grown (get_or ms b 0) (d.done j q k b h))
        p.done;
  }
