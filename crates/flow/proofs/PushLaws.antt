-- Pushing along a way: what a step and a way can carry, one push, and the way that is left. Assumes nothing.
use mathlib.Core.Path.{◌≡◌, refl, sym, ap, ap₂, ◌∙◌, subst}
use mathlib.Core.Bool.{Bool, true, false, cond}
use mathlib.Core.Logic.{◌≢◌}
use mathlib.Core.List.{List, [], ◌∷◌}
use Prim.Native.Nat.{ℕ, zero, suc, ◌+◌, ◌^◌, ◌≤◌, ◌<◌, min}
use native.Mathlib.Nat.{not-suc-le-zero}
use native.Mathlib.Decide.{ℕ_discrete}
use native.Mathlib.Omega.{arith}
use lib.ListN.{length, get_or, set, length-set}
use lib.Signed.{mag}
use mir.Syntax.{w32}
use mir.Val.{to_z, of_z, hbits, SFits}
use Rattle.flow.proofs.Numbers.{read_back, shift_is}
use lib.Seq.{get_or-set_same, get_or-set_other}
use lib.IntN.{ℤ, pos, neg_ℤ, ◌+ℤ◌}
use borrow.Author.Tests.{ne_eqb}
use lib.Dec.{eqb}
use Rattle.line.specs.Card.{Card, all_pins}
use Rattle.line.specs.Flow.{sent, total_sent, NetRule}
use Rattle.line.proofs.Ways.{plainly}
use Rattle.line.proofs.Index.{net_at, start, numbers, each_at}
use Rattle.line.proofs.Push.{push, push-sum, full, numbers_same, numbers_other}
use Rattle.line.proofs.Path.{Step, pin_of, tail, Sound, Spare, AllOf, LeadsBack, Ready, ready_step, push_step, push_all, step_rules, step-length}
use Rattle.line.proofs.Tree.{walk}
use Rattle.line.proofs.Search.{number_sent, number_taken}
use Rattle.flow.specs.Search.{In, rank, left, entered}
use Rattle.flow.specs.Cards.{Small, Sums, up_of}
use Rattle.flow.specs.Push.{room_at, way_room, Trod, Ground, Rest, pushed_all, PushedWay, new_sum, Pushable}
use Rattle.flow.proofs.TreeLaws.{number_at, pin_global}

-- on the way: from whatever card the push began, d is still to be pushed from u on, and what comes of it is what was to come
abbrev pub OnWay : List ℕ → List ℕ → List ℕ → List ℕ → List ℕ → List ℤ → ℕ → ℕ → List ℕ → List ℤ → ℕ → Type 0
OnWay ms nt mk w sm₀ fl₀ d z sm fl u =
    (c : Card) → Ground c ms nt mk w → Rest c ms nt w sm₀ fl₀ d (suc (length mk)) z →
    (k : ℕ) × (Rest c ms nt w sm fl d k u × (pushed_all c nt w fl d k u ≡ pushed_all c nt w fl₀ d (suc (length mk)) z))

-- ---- one push, as the code makes it

-- the number at a, as it is read at an index that is a
pub read_at : (fl : List ℤ) {A a : ℕ} → A ≡ a → mag (get_or fl A (pos 0)) < 2 ^ hbits w32 → to_z w32 (of_z w32 (get_or fl A (pos 0))) ≡ get_or fl a (pos 0)
read_at fl {A} {a} e g = read_back (get_or fl A (pos 0)) g ∙ ap (λ (i : ℕ). get_or fl i (pos 0)) e

pub shifted_at : (g : ℤ → ℤ) (fl : List ℤ) {A a : ℕ} (d : ℕ) → A ≡ a → mag (get_or fl A (pos 0)) < 2 ^ hbits w32 → d ≤ 65535 → SFits w32 (get_or fl a (pos 0) +ℤ g (pos d)) →
    to_z w32 (of_z w32 (to_z w32 (of_z w32 (get_or fl A (pos 0))) +ℤ g (to_z w32 d))) ≡ get_or fl a (pos 0) +ℤ g (pos d)
shifted_at g fl {A} {a} d e m l h = rw (← e) (shift_is g (get_or fl A (pos 0)) d (record { sfits = m }) l (subst (λ (i : ℕ). SFits w32 (get_or fl i (pos 0) +ℤ g (pos d))) (sym e) h))

pub push_code : (fl : List ℤ) (a b d : ℕ) {A B : ℕ} {more less : ℤ} → A ≡ a → B ≡ b → a ≢ b → more ≡ get_or fl a (pos 0) +ℤ pos d → less ≡ get_or fl b (pos 0) +ℤ neg_ℤ (pos d) →
    set (set fl A more) B less ≡ push fl a b d
unfolding push
push_code fl a b d {A} {B} {more} {less} ea eb ne em el =
    rw (em, el, ea, eb)
    (ap (λ (y : ℤ). set (set fl a (get_or fl a (pos 0) +ℤ pos d)) b (y +ℤ neg_ℤ (pos d)))
    (sym (get_or-set_other fl a b (get_or fl a (pos 0) +ℤ pos d) (pos 0) (λ e. ne (sym e)))))

pub sums_code : (sm : List ℕ) {n N v w : ℕ} → n ≡ N → v ≡ w → set sm n v ≡ set sm N w
sums_code sm en ev = rw (en, ev) refl

-- ---- the least room of a way, as the code goes along it

module _ (ms ws nt mk w sm : List ℕ) (fl : List ℤ) where
  pub way_more : (k d u t : ℕ) → rank (get_or w u 0) < k → (get_or mk u 0 ≡ 1 → ⊥) → rank (get_or w (get_or ms (left (get_or w u 0)) 0) 0) < rank (get_or w u 0) → min d (way_room ms ws nt mk w sm fl k u) ≡ t →
      (k' : ℕ) × (rank (get_or w (get_or ms (left (get_or w u 0)) 0) 0) < k') × (min (min d (room_at ws nt sm fl (get_or w u 0))) (way_room ms ws nt mk w sm fl k' (get_or ms (left (get_or w u 0)) 0)) ≡ t)
  unfolding way_room
  way_more zero d u t r n l e = absurd (not-suc-le-zero r)
  way_more (suc k) d u t r n l e = (k, omega arith, mins d _ _ ∙ (rw (ne_eqb (get_or mk u 0) 1 n) at e))
    where
      mins : (x y z : ℕ) → min (min x y) z ≡ min x (min y z)
      mins x y z = omega arith

  pub way_end : (k d u t : ℕ) → rank (get_or w u 0) < k → get_or mk u 0 ≡ 1 → d ≤ 65535 → min d (way_room ms ws nt mk w sm fl k u) ≡ t → d ≡ t
  unfolding way_room
  way_end zero d u t r n l e = absurd (not-suc-le-zero r)
  way_end (suc k) d u t r n l e = let q : min d 65535 ≡ t = (rw n at e) in omega arith

  pub way_top : (k u : ℕ) → way_room ms ws nt mk w sm fl k u ≤ 65535
  unfolding way_room
  way_top zero u = omega arith
  way_top (suc k) u = go (room_at ws nt sm fl (get_or w u 0)) (way_room ms ws nt mk w sm fl k (get_or ms (left (get_or w u 0)) 0)) (eqb (get_or mk u 0) 1) (way_top k (get_or ms (left (get_or w u 0)) 0))
    where
      go : (x y : ℕ) (b : Bool) → y ≤ 65535 → cond b 65535 (min x y) ≤ 65535
      go x y true h = omega arith
      go x y false h = omega arith

  pub least_top : (k u : ℕ) → min 65535 (way_room ms ws nt mk w sm fl k u) ≡ way_room ms ws nt mk w sm fl k u
  least_top k u = omega (arith, way_top k u)

-- ---- the way that is left

one-sum : (ys : List ℤ) (i : ℕ) → sent (get_or ys i (pos 0)) ≤ total_sent ys
unfolding total_sent
one-sum [] i = omega arith
one-sum (y ∷ ys) zero = omega arith
one-sum (y ∷ ys) (suc i) = omega (arith, one-sum ys i)

two-sum : (ys : List ℤ) (i j : ℕ) → i ≢ j → sent (get_or ys i (pos 0)) + sent (get_or ys j (pos 0)) ≤ total_sent ys
unfolding total_sent
two-sum [] i j n = omega arith
two-sum (y ∷ ys) zero zero n = absurd (n refl)
two-sum (y ∷ ys) zero (suc j) n = omega (arith, one-sum ys j)
two-sum (y ∷ ys) (suc i) zero n = omega (arith, one-sum ys i)
two-sum (y ∷ ys) (suc i) (suc j) n = omega (arith, two-sum ys i j (λ e. n (ap suc e)))

walk_split : (c : Card) (up : ℕ → Step) (k u h : ℕ) → c.mark h ≡ 1 → c.mark u ≢ 1 → LeadsBack c h (walk c up k u) u → (k' : ℕ) × (walk c up k u ≡ up u ∷ walk c up k' (tail c (up u)))
unfolding walk LeadsBack
walk_split c up zero u h m n l = absurd (n (ap c.mark (sym l) ∙ m))
walk_split c up (suc k) u h m n l = (k, rw (ne_eqb (c.mark u) 1 n) refl)

module _ (c : Card) (ms nt mk w : List ℕ) (g : Ground c ms nt mk w) (sm : List ℕ) (fl : List ℤ) (d k u : ℕ) (rest : Rest c ms nt w sm fl d k u) (n : get_or mk u 0 ≢ 1) (ld : d ≤ 65535) where
  x : ℕ
  x = get_or w u 0

  A : ℕ
  A = left (get_or w u 0)

  B : ℕ
  B = entered (get_or w u 0)

  e : ℕ
  e = get_or nt (left (get_or w u 0)) 0

  abbrev t : Step
  t = up_of c nt w u

  trod : Trod ms nt w (length c.nets) u
  trod = g.trail.step u rest.from n

  parts : (k' : ℕ) × (walk c (up_of c nt w) k u ≡ up_of c nt w u ∷ walk c (up_of c nt w) k' (tail c (up_of c nt w u)))
  parts = walk_split c (up_of c nt w) k u rest.leads.0 rest.leads.1 (λ q. n (sym (g.mark u) ∙ q)) rest.leads.2

  abbrev left_over : List Step
  left_over = walk c (up_of c nt w) parts.0 (tail c (up_of c nt w u))

  ready : Ready plainly c fl d (t ∷ left_over)
  ready = subst (λ (ts : List Step). Ready plainly c fl d ts) parts.1 rest.ready

  sound : Sound plainly c t
  unfolding AllOf
  sound = ready.sound.0

  spare : Spare c fl d t
  unfolding AllOf
  spare = ready.spare.0

  at_a : start c.nets t.net + t.a ≡ A
  unfolding A
  at_a = omega (arith, g.grid.low (left (get_or w u 0)) trod.in_left)

  at_b : start c.nets t.net + t.b ≡ B
  unfolding B
  at_b =
      let q : start c.nets (get_or nt (entered (get_or w u 0)) 0) ≡ start c.nets (get_or nt (left (get_or w u 0)) 0) = ap (start c.nets) trod.same in
      omega (arith, g.grid.low (entered (get_or w u 0)) trod.in_entered)

  pub rest_tail : tail c (up_of c nt w u) ≡ get_or ms (left (get_or w u 0)) 0
  unfolding A
  rest_tail = pin_global c ms g.grid.pins t.net t.a sound.net sound.a ∙ ap (λ (i : ℕ). get_or ms i 0) at_a

  apart : A ≢ B
  apart q = sound.moves (ap (pin_of c t.net) (let x = at_a in let y = at_b in let z : t.a ≡ t.b = omega arith in z))

  pushed_step : push_step c fl d t ≡ push fl A B d
  unfolding push_step
  pushed_step = ap₂ (λ (i j : ℕ). push fl i j d) at_a at_b

  rule : NetRule (net_at c.nets t.net) (numbers c.nets fl t.net)
  rule = each_at NetRule c.nets fl rest.rules t.net sound.net

  num_a : get_or (numbers c.nets fl t.net) t.a (pos 0) ≡ get_or fl A (pos 0)
  num_a = number_at c.nets fl t.net t.a sound.a ∙ ap (λ (i : ℕ). get_or fl i (pos 0)) at_a

  num_b : get_or (numbers c.nets fl t.net) t.b (pos 0) ≡ get_or fl B (pos 0)
  num_b = number_at c.nets fl t.net t.b sound.b ∙ ap (λ (i : ℕ). get_or fl i (pos 0)) at_b

  pins_apart : t.a ≢ t.b
  pins_apart q = sound.moves (ap (pin_of c t.net) q)

  long : length (all_pins c.nets) ≤ length fl
  long = omega (arith, ap length g.grid.pins, rest.flows)

  size : length (numbers c.nets fl t.net) ≡ length (net_at c.nets t.net).pins
  size = full c.nets fl t.net t.a t.b d sound.net sound.a sound.b long

  small : (i p : ℕ) → get_or (numbers c.nets fl t.net) i (pos 0) ≡ get_or fl p (pos 0) → Small (get_or fl p (pos 0))
  small i p q = subst Small q (let y = g.weights t.net sound.net in record {
    sent = omega (arith, number_sent (net_at c.nets t.net) (numbers c.nets fl t.net) rule i);
    taken = omega (arith, number_taken (net_at c.nets t.net) (numbers c.nets fl t.net) rule i);
  })

  pub rest_pushable : Pushable fl sm nt d (left (get_or w u 0)) (entered (get_or w u 0))
  unfolding A B
  rest_pushable = record {
    in_a = omega (arith, trod.in_left, rest.flows);
    in_b = omega (arith, trod.in_entered, rest.flows);
    nts = omega (arith, g.trail.nts, rest.flows);
    few = omega (arith, g.trail.few, rest.flows);
    apart = apart;
    amount = ld;
    net = omega (arith, trod.net, rest.sums.len);
    small_a = small t.a (left (get_or w u 0)) num_a;
    small_b = small t.b (entered (get_or w u 0)) num_b;
    sum = omega (arith, rest.sums.sum t.net sound.net, rule.fits, g.weights t.net sound.net);
    held = omega (arith, rest.sums.sum t.net sound.net, two-sum (numbers c.nets fl t.net) t.a t.b pins_apart, ap sent num_a, ap sent num_b);
  }

  abbrev sm' : List ℕ
  sm' = set sm (get_or nt (left (get_or w u 0)) 0) (new_sum fl (left (get_or w u 0)) (entered (get_or w u 0)) d (get_or sm (get_or nt (left (get_or w u 0)) 0) 0))

  new_sums : Sums c sm' (push_step c fl d t)
  unfolding push_step A B
  new_sums = record {
    len = length-set sm t.net (new_sum fl A B d (get_or sm t.net 0)) ∙ rest.sums.len;
    sum = λ j l. go j l (ℕ_discrete j t.net);
  }
    where
      go : (j : ℕ) → j < length c.nets → Dec (j ≡ t.net) → get_or sm' j 0 ≡ total_sent (numbers c.nets (push fl (start c.nets t.net + t.a) (start c.nets t.net + t.b) d) j)
      go j l (no q) = get_or-set_other sm t.net j (new_sum fl A B d (get_or sm t.net 0)) 0 q ∙ rest.sums.sum j l
          ∙ ap total_sent (sym (numbers_other c.nets fl t.net t.a t.b d sound.net sound.a sound.b j l q))
      go j l (yes q) =
          rw (q, get_or-set_same sm t.net (new_sum fl A B d (get_or sm t.net 0)) 0 (omega (arith, sound.net, rest.sums.len)), numbers_same c.nets fl t.net t.a t.b d sound.net sound.a sound.b)
          (omega (
            arith,
            rest.sums.sum t.net sound.net,
            push-sum (numbers c.nets fl t.net) t.a t.b d (rw size sound.a) (rw size sound.b) pins_apart,
            ap sent num_a,
            ap sent num_b,
            ap (λ (z : ℤ). sent (z +ℤ pos d)) num_a,
            ap (λ (z : ℤ). sent (z +ℤ neg_ℤ (pos d))) num_b,
          ))

  -- after the push the rest of the way is left, and what is to come of it is what was to come
  pub rest_more : (k' : ℕ) × (Rest c ms nt w sm' (push fl (left (get_or w u 0)) (entered (get_or w u 0)) d) d k' (get_or ms (left (get_or w u 0)) 0)
      × (pushed_all c nt w (push fl (left (get_or w u 0)) (entered (get_or w u 0)) d) d k' (get_or ms (left (get_or w u 0)) 0) ≡ pushed_all c nt w fl d k u))
  unfolding A B LeadsBack push_all
  rest_more = (
    parts.0,
    (
      rw (← pushed_step, ← rest_tail) (record {
        ready = ready_step plainly c d fl t left_over ready;
        leads = (rest.leads.0, rest.leads.1, (subst (λ (ts : List Step). LeadsBack c rest.leads.0 ts u) parts.1 rest.leads.2).1);
        rules = step_rules plainly c fl d long t sound spare rest.rules;
        sums = new_sums;
        flows = step-length plainly c fl d long t sound spare ∙ rest.flows;
        from = subst (λ (i : ℕ). In w i) (sym rest_tail) trod.from;
      }),
      rw (← pushed_step, ← rest_tail) (sym (ap (λ (ts : List Step). push_all c fl d ts) parts.1)),
    ),
  )

pub way_step : (ms nt mk w sm₀ : List ℕ) (fl₀ : List ℤ) (d z : ℕ) (sm : List ℕ) (fl : List ℤ) (u : ℕ) {sm' : List ℕ} {fl' : List ℤ} {u' : ℕ} → OnWay ms nt mk w sm₀ fl₀ d z sm fl u → get_or mk u 0 ≢ 1 → d ≤ 65535 →
    fl' ≡ push fl (left (get_or w u 0)) (entered (get_or w u 0)) d →
    sm' ≡ set sm (get_or nt (left (get_or w u 0)) 0) (new_sum fl (left (get_or w u 0)) (entered (get_or w u 0)) d (get_or sm (get_or nt (left (get_or w u 0)) 0) 0)) →
    u' ≡ get_or ms (left (get_or w u 0)) 0 → OnWay ms nt mk w sm₀ fl₀ d z sm' fl' u'
way_step ms nt mk w sm₀ fl₀ d z sm fl u inv n ld ef es eu c g r =
    let i = inv c g r in
    let m = rest_more c ms nt mk w g sm fl d i.0 u i.1.0 n ld in
    (m.0, (rw (ef, es, eu) m.1.0, rw (ef, eu) (m.1.1 ∙ i.1.1)))

walk_end : (c : Card) (up : ℕ → Step) (k u : ℕ) → c.mark u ≡ 1 → walk c up k u ≡ []
unfolding walk
walk_end c up zero u e = refl
walk_end c up (suc k) u e = rw e refl

pub way_done : (ms nt mk w sm₀ : List ℕ) (fl₀ : List ℤ) (d z : ℕ) (sm : List ℕ) (fl : List ℤ) (u : ℕ) → OnWay ms nt mk w sm₀ fl₀ d z sm fl u → get_or mk u 0 ≡ 1 → PushedWay ms nt mk w sm₀ fl₀ d z sm fl
unfolding push_all
way_done ms nt mk w sm₀ fl₀ d z sm fl u inv e c g r =
    let i = inv c g r in
    (sym (ap (λ (ts : List Step). push_all c fl d ts) (walk_end c (up_of c nt w) i.0 u (g.mark u ∙ e))) ∙ i.1.1, i.1.0.sums)
