-- A round of pushes, and the rounds together. Assumes nothing.
use mathlib.Core.Path.{◌≡◌, refl, sym, ap, ap₂, ◌∙◌, subst}
use mathlib.Core.Bool.{Bool, true, false, cond, true≢false}
use mathlib.Core.Logic.{◌≢◌, inr}
use mathlib.Core.List.{List, ◌∷◌}
use Prim.Native.Nat.{ℕ, zero, suc, ◌+◌, ◌-◌, ◌≤◌, ◌<◌, min}
use native.Mathlib.Decide.{ℕ_discrete}
use native.Mathlib.Omega.{arith}
use borrow.Author.Count.{below_more}
use lib.ListN.{length, take, drop, get_or, set}
use lib.Seq.{get_or-set_same, get_or-set_other}
use lib.IntN.{ℤ, pos, ◌+ℤ◌, +ℤ_idr, +ℤ_assoc}
use lib.Dec.{T, eqb, eqb→eq}
use borrow.Author.Tests.{ne_eqb}
use Rattle.std.specs.List.{sum_by}
use Rattle.std.proofs.lemmas.List.Recursion.{is_sum_by}
use Rattle.line.specs.Card.{Card}
use Rattle.line.specs.Flow.{sent, taken, total_sent, NetRule, Fair, value, EachNet}
use Rattle.line.proofs.Ways.{plainly}
use Rattle.line.proofs.Index.{net_at, start, numbers, each_at}
use Rattle.line.proofs.Path.{Step, tail, Sound, spare_by, spare_of, AllOf, Ready, least, least_spare, least_above, path_fair, path_value, path-length}
use Rattle.line.proofs.Tree.{walk}
use Rattle.line.proofs.Duality.{fair_plain}
use Rattle.line.proofs.Search.{number_sent, number_taken}
use Rattle.flow.specs.Search.{In, left, kind, entered}
use Rattle.flow.specs.Cards.{Small, Grid, up_of}
use Rattle.flow.specs.Push.{room_at, way_room, Trail, Level, Rest, PushedWay}
use Rattle.flow.specs.Raise.{Field, Route, Steady, OpenWay, Gained, Carried, Rounded, part_of, Summed}
use Rattle.flow.proofs.TreeLaws.{number_at, pin_global}
use Rattle.flow.proofs.PushLaws.{way_top}

-- ---- a number of a fair flow is within a weight of 0

pub small_number : (c : Card) (ms nt : List ℕ) → Grid c ms nt → ((e : ℕ) → e < length c.nets → (net_at c.nets e).weight ≤ 65535) → (fl : List ℤ) → EachNet NetRule c.nets fl → (p : ℕ) → p < length ms → Small (get_or fl p (pos 0))
small_number c ms nt g weights fl rules p l =
    let e = get_or nt p 0 in
    let i = p - start c.nets e in
    let le = g.net p l in
    let r = each_at NetRule c.nets fl rules e le in
    let at : start c.nets e + i ≡ p = omega (arith, g.low p l) in
    let li : i < length (net_at c.nets e).pins = omega (arith, g.low p l, g.high p l) in
    subst Small (number_at c.nets fl e i li ∙ ap (λ (j : ℕ). get_or fl j (pos 0)) at)
    (record {
      sent = omega (arith, number_sent (net_at c.nets e) (numbers c.nets fl e) r i, weights e le);
      taken = omega (arith, number_taken (net_at c.nets e) (numbers c.nets fl e) r i, weights e le);
    })

-- ---- the room of a way is the least of the theory

module _ (c : Card) (ms ws nt mk w : List ℕ) (f : Field c ms ws nt mk w) (sm : List ℕ) (fl : List ℤ) (s : Steady c ms sm fl) where
  room_spare : (u : ℕ) → In w u → get_or mk u 0 ≢ 1 → Sound plainly c (up_of c nt w u) → room_at ws nt sm fl (get_or w u 0) ≡ spare_of c fl (up_of c nt w u)
  room_spare u i n so =
      let g = f.ground in
      let x = get_or w u 0 in
      let t = up_of c nt w u in
      let trod = g.trail.step u i n in
      let at_a : start c.nets t.net + t.a ≡ left x = omega (arith, g.grid.low (left x) trod.in_left) in
      let q : start c.nets (get_or nt (entered x) 0) ≡ start c.nets t.net = ap (start c.nets) trod.same in
      let at_b : start c.nets t.net + t.b ≡ entered x = omega (arith, g.grid.low (entered x) trod.in_entered) in
      go (eqb (kind x) 1) (eqb (kind x) 2) (eqb→eq (kind x) 1) (eqb→eq (kind x) 2)
      (ap taken (sym (number_at c.nets fl t.net t.a so.a ∙ ap (λ (i : ℕ). get_or fl i (pos 0)) at_a)))
      (ap sent (sym (number_at c.nets fl t.net t.b so.b ∙ ap (λ (i : ℕ). get_or fl i (pos 0)) at_b)))
      (ap₂ (λ (m n : ℕ). m - n) (sym (f.weight t.net (omega (arith, so.net, f.nets)))) (s.sums.sum t.net so.net))
    where
      go : (x y : Bool) → (T x → kind (get_or w u 0) ≡ 1) → (T y → kind (get_or w u 0) ≡ 2) → {A A' B B' R R' : ℕ} → A ≡ A' → B ≡ B' → R ≡ R' → cond x A (cond y B R) ≡ spare_by x y A' B' R'
      go true true p q a b r = absurd (omega (arith, p tt, q tt))
      go true false p q a b r = a
      go false true p q a b r = b
      go false false p q a b r = r

  way_least : (k u : ℕ) → In w u → AllOf (Sound plainly c) (walk c (up_of c nt w) k u) → way_room ms ws nt mk w sm fl k u ≡ least c fl 65535 (walk c (up_of c nt w) k u)
  unfolding way_room walk least AllOf
  way_least zero u i so = refl
  way_least (suc k) u i so = go (λ v. way_least k v) (ℕ_discrete (get_or mk u 0) 1)
    where
      go : ((v : ℕ) → In w v → AllOf (Sound plainly c) (walk c (up_of c nt w) k v) → way_room ms ws nt mk w sm fl k v ≡ least c fl 65535 (walk c (up_of c nt w) k v)) → Dec (get_or mk u 0 ≡ 1) → way_room ms ws nt mk w sm fl (suc k) u ≡ least c fl 65535 (walk c (up_of c nt w) (suc k) u)
      go rec (yes e) = rw (f.ground.mark u, e) refl
      go rec (no n) =
          let em : eqb (c.mark u) 1 ≡ false = ne_eqb (c.mark u) 1 (λ q. n (sym (f.ground.mark u) ∙ q)) in
          let so' : AllOf (Sound plainly c) (up_of c nt w u ∷ walk c (up_of c nt w) k (tail c (up_of c nt w u))) = (rw em at so) in
          rw (em, ne_eqb (get_or mk u 0) 1 n) (ap₂ min (room_spare u i n so'.0) (more n so'.0 so'.1))
        where
          more : get_or mk u 0 ≢ 1 → Sound plainly c (up_of c nt w u) → AllOf (Sound plainly c) (walk c (up_of c nt w) k (tail c (up_of c nt w u))) →
              way_room ms ws nt mk w sm fl k (get_or ms (left (get_or w u 0)) 0) ≡ least c fl 65535 (walk c (up_of c nt w) k (tail c (up_of c nt w u)))
          more n s1 so =
              let g = f.ground in
              let x = get_or w u 0 in
              let trod = g.trail.step u i n in
              let at_a : start c.nets (get_or nt (left x) 0) + (left x - start c.nets (get_or nt (left x) 0)) ≡ left x = omega (arith, g.grid.low (left x) trod.in_left) in
              let et : tail c (up_of c nt w u) ≡ get_or ms (left x) 0 = pin_global c ms g.grid.pins (get_or nt (left x) 0) (left x - start c.nets (get_or nt (left x) 0)) s1.net s1.a ∙ ap (λ (i : ℕ). get_or ms i 0) at_a in
              ap (way_room ms ws nt mk w sm fl k) (sym et) ∙ rec (tail c (up_of c nt w u)) (subst (λ (i : ℕ). In w i) (sym et) trod.from) so

  pub level_of : Level ms ws sm fl
  level_of = record {
    flows = s.flows;
    sums = s.sums.len ∙ f.nets;
    below = λ e l. let l' : e < length c.nets = omega (arith, f.nets) in omega (arith, s.sums.sum e l', (each_at NetRule c.nets fl s.fair.nets e l').fits, f.weight e l);
    small = small_number c ms nt f.ground.grid f.ground.weights fl s.fair.nets;
  }

  pub trail_of : Trail ms nt mk w (length ws)
  trail_of = subst (λ (n : ℕ). Trail ms nt mk w n) f.nets f.ground.trail

  module _ (z : ℕ) (r : Route c nt mk w z) (d : ℕ) (ed : d ≡ way_room ms ws nt mk w sm fl (suc (length mk)) z) where
    abbrev ts : List Step
    ts = walk c (up_of c nt w) (suc (length mk)) z

    is_least : d ≡ least c fl 65535 ts
    is_least = ed ∙ way_least (suc (length mk)) z r.from r.sound

    ready : Ready plainly c fl d ts
    ready = record {
      long = omega (arith, ap length f.ground.grid.pins, s.flows);
      sound = r.sound;
      spare = least_spare c fl plainly 65535 d ts s.fair.nets r.sound (omega (arith, is_least));
      apart = r.apart;
    }

    pub carry_rest : Rest c ms nt w sm fl d (suc (length mk)) z
    carry_rest = record { ready = ready; leads = r.leads; rules = s.fair.nets; sums = s.sums; flows = s.flows; from = r.from }

    open_more : OpenWay c nt mk w fl z → 1 ≤ d
    open_more o = omega (arith, is_least, least_above c fl 65535 1 ts (omega arith) o)

    pub carry_some : (sm' : List ℕ) (fl' : List ℤ) → PushedWay ms nt mk w sm fl d z sm' fl' → (g : Gained c ms sm fl sm' fl') × (OpenWay c nt mk w fl z → 0 < g.more)
    carry_some sm' fl' p =
        let q = p c f.ground carry_rest in
        let h = r.leads.0 in
        let mh = r.leads.1 in
        let mz = r.maker in (
          record {
            steady = record {
              fair = subst (λ (l : List ℤ). Fair c l) (sym q.0)
                  (path_fair plainly c d fl ts ready h z (inr r.leads.2) (λ e. absurd (omega arith)) (λ e. absurd (omega arith)) (fair_plain c fl s.fair)).fair;
              sums = q.1;
              flows = ap length q.0 ∙ path-length plainly c d ts fl ready ∙ s.flows;
            };
            more = d;
            gain = ap (value c) q.0 ∙ path_value plainly c d fl ts ready h z (inr r.leads.2) mh (λ e. absurd (omega arith));
          },
          (λ o. open_more o),
        )

    pub carry_none : (0 < d → ⊥) → (g : Gained c ms sm fl sm fl) × (OpenWay c nt mk w fl z → 0 < g.more)
    carry_none n = (record { steady = s; more = 0; gain = sym (+ℤ_idr (value c fl)) }, (λ o. absurd (n (open_more o))))

-- ---- a round

module _ (ms ws nt mk w sm : List ℕ) (fl : List ℤ) (i : ℕ) (any : Bool) (sm₁ : List ℕ) (fl₁ : List ℤ) (r : Rounded ms ws nt mk w sm fl i any sm₁ fl₁) where
  -- no maker, or one that was not reached
  pub round_skip : (get_or mk i 0 ≡ 2 → In w i → ⊥) → Rounded ms ws nt mk w sm fl (i + 1) any sm₁ fl₁
  round_skip n c f rs s = let o = r c f rs s in record {
    gained = o.gained;
    none = λ e. let q = o.none e in (q.0, q.1, below_more _ i q.2 n);
    some = o.some;
  }

  pub round_push : (sm₂ : List ℕ) (fl₂ : List ℤ) → i < length mk → get_or mk i 0 ≡ 2 → In w i → Carried ms ws nt mk w sm₁ fl₁ i sm₂ fl₂ → Rounded ms ws nt mk w sm fl (i + 1) true sm₂ fl₂
  round_push sm₂ fl₂ l e h k c f rs s =
      let o = r c f rs s in
      let p = k c f (rs i l e h) o.gained.steady in
      let x = o.gained.more in
      let y = p.0.more in record {
        gained = record {
          steady = p.0.steady;
          more = x + y;
          gain = p.0.gain ∙ ap (λ (v : ℤ). v +ℤ pos y) o.gained.gain ∙ +ℤ_assoc (value c fl) (pos x) (pos y);
        };
        none = λ q. absurd (true≢false q);
        some = λ _ ways. go any refl o.none o.some ways p.1;
      }
    where
      go : {x y : ℕ} (b : Bool) → b ≡ any →
          (any ≡ false → (fl₁ ≡ fl) × (sm₁ ≡ sm) × ((z : ℕ) → z < i → get_or mk z 0 ≡ 2 → In w z → ⊥)) →
          (any ≡ true → ((z : ℕ) → z < length mk → get_or mk z 0 ≡ 2 → In w z → OpenWay c nt mk w fl z) → 0 < x) →
          ((z : ℕ) → z < length mk → get_or mk z 0 ≡ 2 → In w z → OpenWay c nt mk w fl z) → (OpenWay c nt mk w fl₁ i → 0 < y) → 0 < x + y
      go {x} {y} true q n m ways p = let g = m (sym q) ways in omega arith
      go {x} {y} false q n m ways p =
          let same = (n (sym q)).0 in
          let g = p (subst (λ (v : List ℤ). OpenWay c nt mk w v i) (sym same) (ways i l e h)) in omega arith

-- ---- the sums of the nets

pub summed_more : (fs : List ℕ) (fl : List ℤ) (sm : List ℕ) (n : ℕ) {v : ℕ} → n < length sm → v ≡ total_sent (part_of fs fl n) → Summed fs fl n sm → Summed fs fl (n + 1) (set sm n v)
summed_more fs fl sm n {v} l e s = record { sum = below_more _ n (λ j k. get_or-set_other sm n j v 0 (omega arith) ∙ s.sum j k) (get_or-set_same sm n v 0 l ∙ e) }

pub part_sum : (fs : List ℕ) (fl : List ℤ) (n : ℕ) {lo hi : ℕ} → lo ≡ get_or fs n 0 → hi ≡ get_or fs (n + 1) 0 → total_sent (part_of fs fl n) ≡ sum_by sent (take (hi - lo) (drop lo fl))
unfolding total_sent
part_sum fs fl n el eh = rw (el, eh) (is_sum_by total_sent sent refl (λ _ _. refl) (part_of fs fl n))

pub way_most : (ms ws nt mk w sm : List ℕ) (fl : List ℤ) (z : ℕ) {d : ℕ} → d ≡ way_room ms ws nt mk w sm fl (suc (length mk)) z → d ≤ 65535
way_most ms ws nt mk w sm fl z e = omega (arith, e, way_top ms ws nt mk w sm fl (suc (length mk)) z)
