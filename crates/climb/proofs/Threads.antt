-- The way of a climb: it begins at a meter, grows by one step, loses its last one, and ends at the meter. Assumes nothing.
use mathlib.Core.Path.{◌≡◌, refl, sym, ap, ◌∙◌, subst}
use mathlib.Core.Logic.{◌≢◌, ⊎_elim}
use mathlib.Core.List.{List}
use Prim.Native.Nat.{ℕ, suc, ◌+◌, ◌≤◌, ◌<◌}
use native.Mathlib.Numerals.{add-one}
use native.Mathlib.Nat.{not-suc-le-zero}
use native.Mathlib.Decide.{ℕ_discrete}
use native.Mathlib.Omega.{arith}
use lib.ListN.{length, get_or, set, length-set}
use lib.Seq.{get_or-set_same, get_or-set_other}
use Rattle.flow.specs.Search.{In, rank, left, kind, entered}
use Rattle.flow.specs.Push.{Trod}
use Rattle.flow.specs.declared.board.Board.{Board}
use Rattle.flow.proofs.BoardLaws.{tables_of}
use Rattle.flow.proofs.Sets.{in_eq, in_set_here, set_in, in_length}
use Rattle.climb.specs.Climb.{Named, Onward, Empty, Thread}

-- ---- a list with one place set

set_each : (P : ℕ → ℕ → Type 0) (w : List ℕ) (v x : ℕ) → v < length w → P v x → ((m : ℕ) → m ≢ v → P m (get_or w m 0)) → (m : ℕ) → P m (get_or (set w v x) m 0)
set_each P w v x l here there m = go (ℕ_discrete m v)
  where
    go : Dec (m ≡ v) → P m (get_or (set w v x) m 0)
    go (yes e) = subst (λ (k : ℕ). P k (get_or (set w v x) k 0)) (sym e) (subst (P v) (sym (get_or-set_same w v x 0 l)) here)
    go (no n) = subst (P m) (sym (get_or-set_other w v m x 0 n)) (there m n)

-- ---- the step that a number tells, on the way

record Tread (ms nt w : List ℕ) (N y : ℕ) : Type 0 where
  in_left : left y < length ms
  in_entered : entered y < length ms
  net : get_or nt (left y) 0 < N
  same : get_or nt (entered y) 0 ≡ get_or nt (left y) 0
  from : In w (get_or ms (left y) 0)
  lower : rank (get_or w (get_or ms (left y) 0) 0) < rank y

module _ (ms nt : List ℕ) (N : ℕ) where
  trod_of : (w : List ℕ) (m : ℕ) → Tread ms nt w N (get_or w m 0) → Trod ms nt w N m
  trod_of w m t = record { in_left = t.in_left; in_entered = t.in_entered; net = t.net; same = t.same; from = t.from; lower = t.lower }

  -- if the module left has kept its number
  tread_of : (w w' : List ℕ) (m : ℕ) → Trod ms nt w N m → get_or w' (get_or ms (left (get_or w m 0)) 0) 0 ≡ get_or w (get_or ms (left (get_or w m 0)) 0) 0 → Tread ms nt w' N (get_or w m 0)
  tread_of w w' m t e = record {
    in_left = t.in_left;
    in_entered = t.in_entered;
    net = t.net;
    same = t.same;
    from = in_eq w w' (get_or ms (left (get_or w m 0)) 0) e t.from;
    lower = omega (arith, ap rank e, t.lower);
  }

-- ---- the way begins at a meter

module _ (b : Board) (w sn : List ℕ) (s x : ℕ) (none : Empty w) (lenw : length w ≡ length b.mark.now) (ls : s < length b.mark.now) (meter : get_or b.mark.now s 0 ≡ 1) (one : rank x ≡ 1) where
  only : (m : ℕ) → In (set w s x) m → m ≡ s
  only m i = ⊎_elim (λ e. e) (λ h. absurd (none m h)) (set_in w s x m i)

  ranks : (m : ℕ) → In (set w s x) m → rank (get_or (set w s x) m 0) ≡ 1
  ranks m i = ap (λ (k : ℕ). rank (get_or (set w s x) k 0)) (only m i) ∙ ap rank (get_or-set_same w s x 0 (omega arith)) ∙ one

  meters : (m : ℕ) → In (set w s x) m → get_or b.mark.now m 0 ≡ 1
  meters m i = ap (λ (k : ℕ). get_or b.mark.now k 0) (only m i) ∙ meter

  pub thread_start : Thread b.mods.now b.nets.now b.mark.now (set w s x) sn (length b.weight.now) s
  thread_start = record {
    trail = record {
      lenw = length-set w s x ∙ lenw;
      nts = (tables_of b).counts;
      few = b.few;
      ranks = λ m i. omega (arith, ranks m i);
      step = λ m i n. absurd (n (meters m i));
    };
    tip = in_set_here w s x (omega arith) (omega arith);
    above = λ m i. omega (arith, ranks m i);
    begins = λ m i _. ranks m i;
    last = λ m i n. absurd (n (only m i));
    once = λ m m' i i' _. only m i ∙ sym (only m' i');
    next = λ m i n. absurd (n (meters m i));
    to = λ m i n. absurd (n (meters m i));
    small = λ m i n. absurd (n (meters m i));
    opens = λ m i n. absurd (n (meters m i));
  }

-- ---- at the meter it ends: every other module would have a lower rank

pub thread_end : (ms nt mk w sn : List ℕ) (N v : ℕ) → Thread ms nt mk w sn N v → get_or mk v 0 ≡ 1 → Empty (set w v 0)
thread_end ms nt mk w sn N v t e =
    set_each (λ _ y. 0 < y → ⊥) w v 0 (in_length w v t.tip) (λ h. not-suc-le-zero h) (λ m n i. omega (arith, t.last m i n, t.above m i, t.begins v t.tip e))

-- ---- the module reached last is one

pub tip_below : {ms nt mk w sn : List ℕ} {N u : ℕ} → Thread ms nt mk w sn N u → u < length mk
tip_below {w = w} {u = u} t = omega (arith, in_length w u t.tip, t.trail.lenw)

-- ---- one step more

module _ (ms nt mk w sn : List ℕ) (N u x : ℕ) (t : Thread ms nt mk w sn N u) (o : Onward ms nt mk w sn u (suc (rank (get_or w u 0))) x) (mods : Named ms (length mk)) (nets : Named nt N) where
  abbrev v : ℕ
  v = get_or ms (entered x) 0

  abbrev w' : List ℕ
  w' = set w v x

  lv : v < length w
  lv = omega (arith, mods (entered x) o.in_entered, t.trail.lenw)

  kept : (m : ℕ) → In w m → get_or w' m 0 ≡ get_or w m 0
  kept m i = get_or-set_other w v m x 0 (λ e. absurd (omega (arith, i, ap (λ (k : ℕ). get_or w k 0) e, o.fresh)))

  -- the module entered last, and every other
  each : (P : ℕ → ℕ → Type 0) → P v x → ((m : ℕ) → In w m → P m (get_or w m 0)) → (m : ℕ) → In w' m → P m (get_or w' m 0)
  each P here there = set_each (λ m y. 0 < y → P m y) w v x lv (λ _. here) (λ m _. there m)

  source : get_or w' (get_or ms (left x) 0) 0 ≡ get_or w u 0
  source = ap (λ (k : ℕ). get_or w' k 0) o.from ∙ kept u t.tip

  lower : (m : ℕ) → In w m → rank (get_or w m 0) < rank x
  lower m i = go (ℕ_discrete m u)
    where
      go : Dec (m ≡ u) → rank (get_or w m 0) < rank x
      go (yes e) = omega (arith, ap (λ (k : ℕ). rank (get_or w k 0)) e, o.rank)
      go (no n) = omega (arith, t.last m i n, o.rank)

  step : (m : ℕ) → In w' m → get_or mk m 0 ≢ 1 → Tread ms nt w' N (get_or w' m 0)
  step = each (λ m y. get_or mk m 0 ≢ 1 → Tread ms nt w' N y)
      (λ _. record {
        in_left = o.in_left;
        in_entered = o.in_entered;
        net = nets (left x) (omega (arith, o.in_left, t.trail.nts));
        same = o.same;
        from = omega (arith, source, t.tip);
        lower = omega (arith, ap rank source, o.rank);
      })
      (λ m i n. let k = t.trail.step m i n in tread_of ms nt N w w' m k (kept _ k.from))

  -- if the net's room is marked with v where the step uses it, and no other mark is lost
  entered_by : (sn' : List ℕ) → (kind x ≡ 0 → get_or sn' (get_or nt (left x) 0) 0 ≡ suc v) → ((e : ℕ) → get_or sn e 0 ≢ 0 → get_or sn' e 0 ≡ get_or sn e 0) → Thread ms nt mk w' sn' N v
  entered_by sn' marks keeps = record {
    trail = record {
      lenw = length-set w v x ∙ t.trail.lenw;
      nts = t.trail.nts;
      few = t.trail.few;
      ranks = each (λ _ y. rank y ≤ length mk) (omega (arith, o.rank, o.few)) t.trail.ranks;
      step = λ m i n. trod_of ms nt N w' m (step m i n);
    };
    tip = in_set_here w v x (omega (arith, o.rank)) lv;
    above = each (λ _ y. 0 < rank y) (omega (arith, o.rank)) t.above;
    begins = each (λ m y. get_or mk m 0 ≡ 1 → rank y ≡ 1) (λ e. absurd (o.no_meter e)) t.begins;
    last = each (λ m y. m ≢ v → rank y < rank (get_or w' v 0)) (λ n. absurd (n refl)) (λ m i _. omega (arith, lower m i, ap rank (get_or-set_same w v x 0 lv)));
    once = λ m m' i i'. each (λ m y. (m' : ℕ) → In w' m' → rank y ≡ rank (get_or w' m' 0) → m ≡ m')
        (each (λ m' y. rank x ≡ rank y → v ≡ m') (λ _. refl) (λ m' i' e. absurd (omega (arith, lower m' i', e))))
        (λ m i. each (λ m' y. rank (get_or w m 0) ≡ rank y → m ≡ m') (λ e. absurd (omega (arith, lower m i, e))) (λ m' i'. t.once m m' i i'))
        m i m' i';
    next = each (λ m y. get_or mk m 0 ≢ 1 → rank y ≡ suc (rank (get_or w' (get_or ms (left y) 0) 0)))
        (λ _. omega (arith, ap rank source, o.rank))
        (λ m i n. omega (arith, t.next m i n, ap rank (kept _ (t.trail.step m i n).from)));
    to = each (λ m y. get_or mk m 0 ≢ 1 → get_or ms (entered y) 0 ≡ m) (λ _. refl) t.to;
    small = each (λ m y. get_or mk m 0 ≢ 1 → kind y ≤ 2) (λ _. o.small) t.small;
    opens = each (λ m y. get_or mk m 0 ≢ 1 → kind y ≡ 0 → get_or sn' (get_or nt (left y) 0) 0 ≡ suc m)
        (λ _. marks)
        (λ m i n k. let q = t.opens m i n k in keeps _ (λ e. absurd (omega arith)) ∙ q);
  }

  -- by the net's room, which is marked
  thread_enter_room : {v' n y : ℕ} {sn' : List ℕ} → v' ≡ get_or ms (entered x) 0 → n ≡ get_or nt (left x) 0 → y ≡ v' + 1 → sn' ≡ set sn n y → kind x ≡ 0 → length sn ≡ N → Thread ms nt mk (set w v' x) sn' N v'
  thread_enter_room ev en ey es k ls = rw (es, ey, en, ev, add-one)
      (entered_by (set sn e (suc v)) (λ _. get_or-set_same sn e (suc v) 0 (omega (arith, ls, nets (left x) (omega (arith, o.in_left, t.trail.nts)))))
      (λ i q. get_or-set_other sn e i (suc v) 0 (λ h. q (ap (λ (j : ℕ). get_or sn j 0) h ∙ o.room k))))
    where
      e : ℕ
      e = get_or nt (left x) 0

  -- by what a pin takes or sends
  thread_enter_undo : {v' : ℕ} {sn' : List ℕ} → v' ≡ get_or ms (entered x) 0 → sn' ≡ sn → kind x ≢ 0 → Thread ms nt mk (set w v' x) sn' N v'
  thread_enter_undo ev es k = rw (es, ev) (entered_by sn (λ e. absurd (k e)) (λ _ _. refl))

  -- as the code puts it
  pub thread_entered : {v' : ℕ} {w'' sn' : List ℕ} → v' ≡ get_or ms (entered x) 0 → w'' ≡ set w v' x → (kind x ≡ 0 → sn' ≡ set sn (get_or nt (left x) 0) (v' + 1)) → (kind x ≢ 0 → sn' ≡ sn) → length sn ≡ N →
      Thread ms nt mk w'' sn' N v'
  thread_entered {v'} {w''} {sn'} ev ew marked same ls = rw ew (go (ℕ_discrete (kind x) 0))
    where
      go : Dec (kind x ≡ 0) → Thread ms nt mk (set w v' x) sn' N v'
      go (yes k) = thread_enter_room ev refl refl (marked k) k ls
      go (no k) = thread_enter_undo ev (same k) k

-- ---- one step in place of another, between the same modules

module _ (ms nt mk w sn : List ℕ) (N z v x : ℕ) (t : Thread ms nt mk w sn N z) (on : In w v) (plain : get_or mk v 0 ≢ 1)
    (o : Onward ms nt mk (set w v 0) sn (get_or ms (left (get_or w v 0)) 0) (rank (get_or w v 0)) x) (back : get_or ms (entered x) 0 ≡ v) (nets : Named nt N) where
  abbrev w⁼ : List ℕ
  w⁼ = set w v x

  lv⁼ : v < length w
  lv⁼ = in_length w v on

  old : Trod ms nt w N v
  old = t.trail.step v on plain

  -- no rank changes
  same_rank : (m : ℕ) → rank (get_or w⁼ m 0) ≡ rank (get_or w m 0)
  same_rank = set_each (λ m y. rank y ≡ rank (get_or w m 0)) w v x lv⁼ o.rank (λ _ _. refl)

  -- who was on the way is, and no other
  stays : (m : ℕ) → In w m → In w⁼ m
  stays = set_each (λ m y. In w m → 0 < y) w v x lv⁼ (λ i. omega (arith, o.rank, t.above v on)) (λ m _ i. i)

  was : (m : ℕ) → In w⁼ m → In w m
  was = set_each (λ m y. 0 < y → In w m) w v x lv⁼ (λ _. on) (λ m _ i. i)

  each⁼ : (P : ℕ → ℕ → Type 0) → P v x → ((m : ℕ) → In w m → m ≢ v → P m (get_or w m 0)) → (m : ℕ) → In w⁼ m → P m (get_or w⁼ m 0)
  each⁼ P here there = set_each (λ m y. 0 < y → P m y) w v x lv⁼ (λ _. here) (λ m q i. there m i q)

  step⁼ : (m : ℕ) → In w⁼ m → get_or mk m 0 ≢ 1 → Tread ms nt w⁼ N (get_or w⁼ m 0)
  step⁼ = each⁼ (λ m y. get_or mk m 0 ≢ 1 → Tread ms nt w⁼ N y)
      (λ _. record {
        in_left = o.in_left;
        in_entered = o.in_entered;
        net = nets (left x) (omega (arith, o.in_left, t.trail.nts));
        same = o.same;
        from = subst (In w⁼) (sym o.from) (stays _ old.from);
        lower = omega (arith, ap (λ (k : ℕ). rank (get_or w⁼ k 0)) o.from, same_rank (get_or ms (left (get_or w v 0)) 0), old.lower, o.rank);
      })
      (λ m i _ n. let k = t.trail.step m i n in record {
        in_left = k.in_left;
        in_entered = k.in_entered;
        net = k.net;
        same = k.same;
        from = stays _ k.from;
        lower = omega (arith, same_rank (get_or ms (left (get_or w m 0)) 0), k.lower);
      })

  -- if the net's room is marked with v where the step uses it, and no mark but those of v is lost
  swapped_by : (sn' : List ℕ) → (kind x ≡ 0 → get_or sn' (get_or nt (left x) 0) 0 ≡ suc v) → ((e : ℕ) → get_or sn e 0 ≢ 0 → get_or sn' e 0 ≡ get_or sn e 0) → Thread ms nt mk w⁼ sn' N z
  swapped_by sn' marks keeps = record {
    trail = record {
      lenw = length-set w v x ∙ t.trail.lenw;
      nts = t.trail.nts;
      few = t.trail.few;
      ranks = λ m i. omega (arith, same_rank m, t.trail.ranks m (was m i));
      step = λ m i n. trod_of ms nt N w⁼ m (step⁼ m i n);
    };
    tip = stays z t.tip;
    above = λ m i. omega (arith, same_rank m, t.above m (was m i));
    begins = λ m i e. same_rank m ∙ t.begins m (was m i) e;
    last = λ m i n. omega (arith, same_rank m, same_rank z, t.last m (was m i) n);
    once = λ m m' i i' e. t.once m m' (was m i) (was m' i') (sym (same_rank m) ∙ e ∙ same_rank m');
    next = each⁼ (λ m y. get_or mk m 0 ≢ 1 → rank y ≡ suc (rank (get_or w⁼ (get_or ms (left y) 0) 0)))
        (λ _. omega (arith, ap (λ (k : ℕ). rank (get_or w⁼ k 0)) o.from, same_rank (get_or ms (left (get_or w v 0)) 0), t.next v on plain, o.rank))
        (λ m i _ n. omega (arith, t.next m i n, same_rank (get_or ms (left (get_or w m 0)) 0)));
    to = each⁼ (λ m y. get_or mk m 0 ≢ 1 → get_or ms (entered y) 0 ≡ m) (λ _. back) (λ m i _. t.to m i);
    small = each⁼ (λ m y. get_or mk m 0 ≢ 1 → kind y ≤ 2) (λ _. o.small) (λ m i _. t.small m i);
    opens = each⁼ (λ m y. get_or mk m 0 ≢ 1 → kind y ≡ 0 → get_or sn' (get_or nt (left y) 0) 0 ≡ suc m)
        (λ _. marks)
        (λ m i _ n k. let q = t.opens m i n k in keeps _ (λ e. absurd (omega arith)) ∙ q);
  }

  -- as the code puts it
  pub thread_swapped : {v' : ℕ} {w'' sn' : List ℕ} → v' ≡ get_or ms (entered x) 0 → w'' ≡ set w v' x → (kind x ≡ 0 → sn' ≡ set sn (get_or nt (left x) 0) (v' + 1)) → (kind x ≢ 0 → sn' ≡ sn) → length sn ≡ N →
      Thread ms nt mk w'' sn' N z
  thread_swapped {v'} {w''} {sn'} ev ew marked same ls = rw (ew, ev ∙ back) (go (ℕ_discrete (kind x) 0))
    where
      e : ℕ
      e = get_or nt (left x) 0

      le : e < length sn
      le = omega (arith, ls, nets (left x) (omega (arith, o.in_left, t.trail.nts)))

      go : Dec (kind x ≡ 0) → Thread ms nt mk w⁼ sn' N z
      go (yes k) = rw (marked k, ev ∙ back, add-one)
          (swapped_by (set sn e (suc v)) (λ _. get_or-set_same sn e (suc v) 0 le) (λ i q. get_or-set_other sn e i (suc v) 0 (λ h. q (ap (λ (j : ℕ). get_or sn j 0) h ∙ o.room k))))
      go (no k) = rw (same k) (swapped_by sn (λ h. absurd (k h)) (λ _ _. refl))

-- ---- one step back

module _ (ms nt mk w sn : List ℕ) (N u : ℕ) (t : Thread ms nt mk w sn N u) (n : get_or mk u 0 ≢ 1) where
  abbrev p : ℕ
  p = get_or ms (left (get_or w u 0)) 0

  abbrev w⁻ : List ℕ
  w⁻ = set w u 0

  trod : Trod ms nt w N u
  trod = t.trail.step u t.tip n

  kept⁻ : (m : ℕ) → m ≢ u → get_or w⁻ m 0 ≡ get_or w m 0
  kept⁻ m q = get_or-set_other w u m 0 0 q

  -- every module but u
  each⁻ : (P : ℕ → ℕ → Type 0) → ((m : ℕ) → In w m → m ≢ u → P m (get_or w m 0)) → (m : ℕ) → In w⁻ m → P m (get_or w⁻ m 0)
  each⁻ P there = set_each (λ m y. 0 < y → P m y) w u 0 (in_length w u t.tip) (λ h. absurd (not-suc-le-zero h)) (λ m q i. there m i q)

  before : p ≢ u
  before e = absurd (omega (arith, trod.lower, ap (λ (k : ℕ). rank (get_or w k 0)) e))

  -- no step comes from u, which has the highest rank
  source⁻ : (m : ℕ) → In w m → m ≢ u → get_or mk m 0 ≢ 1 → get_or w⁻ (get_or ms (left (get_or w m 0)) 0) 0 ≡ get_or w (get_or ms (left (get_or w m 0)) 0) 0
  source⁻ m i q k = kept⁻ _ (λ e. absurd (omega (arith, (t.trail.step m i k).lower, t.last m i q, ap (λ (j : ℕ). rank (get_or w j 0)) e)))

  lower⁻ : (m : ℕ) → In w m → m ≢ u → m ≢ p → rank (get_or w m 0) < rank (get_or w p 0)
  lower⁻ m i q k = go (ℕ_discrete (rank (get_or w m 0)) (rank (get_or w p 0)))
    where
      go : Dec (rank (get_or w m 0) ≡ rank (get_or w p 0)) → rank (get_or w m 0) < rank (get_or w p 0)
      go (yes e) = absurd (k (t.once m p i trod.from e))
      go (no d) = omega (arith, t.last m i q, t.next u t.tip n)

  -- if no mark but that of u is lost
  thread_left : (sn' : List ℕ) → ((e : ℕ) → get_or sn e 0 ≢ suc u → get_or sn' e 0 ≡ get_or sn e 0) → Thread ms nt mk w⁻ sn' N p
  thread_left sn' keeps = record {
    trail = record {
      lenw = length-set w u 0 ∙ t.trail.lenw;
      nts = t.trail.nts;
      few = t.trail.few;
      ranks = each⁻ (λ _ y. rank y ≤ length mk) (λ m i _. t.trail.ranks m i);
      step = λ m i k. trod_of ms nt N w⁻ m (each⁻ (λ m y. get_or mk m 0 ≢ 1 → Tread ms nt w⁻ N y) (λ m i q k. tread_of ms nt N w w⁻ m (t.trail.step m i k) (source⁻ m i q k)) m i k);
    };
    tip = in_eq w w⁻ p (kept⁻ p before) trod.from;
    above = each⁻ (λ _ y. 0 < rank y) (λ m i _. t.above m i);
    begins = each⁻ (λ m y. get_or mk m 0 ≡ 1 → rank y ≡ 1) (λ m i _. t.begins m i);
    last = each⁻ (λ m y. m ≢ p → rank y < rank (get_or w⁻ p 0)) (λ m i q k. omega (arith, lower⁻ m i q k, ap rank (kept⁻ p before)));
    once = λ m m' i i'. each⁻ (λ m y. (m' : ℕ) → In w⁻ m' → rank y ≡ rank (get_or w⁻ m' 0) → m ≡ m')
        (λ m i _. each⁻ (λ m' y. rank (get_or w m 0) ≡ rank y → m ≡ m') (λ m' i' _. t.once m m' i i'))
        m i m' i';
    next = each⁻ (λ m y. get_or mk m 0 ≢ 1 → rank y ≡ suc (rank (get_or w⁻ (get_or ms (left y) 0) 0))) (λ m i q k. omega (arith, t.next m i k, ap rank (source⁻ m i q k)));
    to = each⁻ (λ m y. get_or mk m 0 ≢ 1 → get_or ms (entered y) 0 ≡ m) (λ m i _. t.to m i);
    small = each⁻ (λ m y. get_or mk m 0 ≢ 1 → kind y ≤ 2) (λ m i _. t.small m i);
    opens = each⁻ (λ m y. get_or mk m 0 ≢ 1 → kind y ≡ 0 → get_or sn' (get_or nt (left y) 0) 0 ≡ suc m)
        (λ m i q k z. let o = t.opens m i k z in keeps _ (λ e. q (omega arith)) ∙ o);
  }

  -- by the net's room, whose mark is taken away
  pub thread_leave_room : {p' e : ℕ} {sn' : List ℕ} → p' ≡ get_or ms (left (get_or w u 0)) 0 → e ≡ get_or nt (left (get_or w u 0)) 0 → sn' ≡ set sn e 0 → kind (get_or w u 0) ≡ 0 → Thread ms nt mk (set w u 0) sn' N p'
  thread_leave_room ep en es k = rw (es, en, ep)
      (thread_left _ (λ i q. get_or-set_other sn (get_or nt (left (get_or w u 0)) 0) i 0 0 (λ h. q (ap (λ (j : ℕ). get_or sn j 0) h ∙ t.opens u t.tip n k))))

  -- by what a pin takes or sends
  pub thread_leave_undo : {p' : ℕ} {sn' : List ℕ} → p' ≡ get_or ms (left (get_or w u 0)) 0 → sn' ≡ sn → Thread ms nt mk (set w u 0) sn' N p'
  thread_leave_undo ep es = rw (es, ep) (thread_left sn (λ _ _. refl))

  pub leave_lower : {p' : ℕ} → p' ≡ get_or ms (left (get_or w u 0)) 0 → rank (get_or (set w u 0) p' 0) < rank (get_or w u 0)
  leave_lower ep = rw ep (omega (arith, ap rank (kept⁻ p before), trod.lower))
