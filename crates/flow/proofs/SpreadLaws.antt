-- Spreading through a net: new modules are put at the queue's end, all that stood before stays, and there is room for one more. Assumes nothing.
use mathlib.Core.Path.{◌≡◌, refl, sym, ap, ◌∙◌, subst}
use mathlib.Core.Bool.{Bool, true}
use mathlib.Core.Logic.{inl, inr, ⊎_elim}
use mathlib.Core.List.{List}
use Prim.Native.Nat.{ℕ, ◌+◌, ◌*◌, ◌≤◌, ◌<◌}
use native.Mathlib.Nat.{le_refl, le_trans}
use native.Mathlib.Omega.{arith}
use lib.ListN.{length, get_or, set, length-set}
use lib.Seq.{get_or-set_same, get_or-set_other}
use lib.IntN.{ℤ}
use lib.Dec.{ltb}
use Rattle.flow.specs.Search.{or, gift, In, rank, Fresh, Grown, Room, way_from, ViaNet, Spread}
use Rattle.flow.proofs.Pins.{pins_more, pin_wider, split}
use Rattle.flow.proofs.Sets.{in_eq, in_set_here, set_in, zeros-set}

abbrev pub Sub : List ℕ → List ℕ → Type 0
Sub xs ys = (m : ℕ) → In xs m → In ys m

pub ranked_in : (x : List ℕ) (m j : ℕ) → rank (get_or x m 0) ≡ j + 1 → In x m
ranked_in x m j e = omega arith

pub grows : {New : ℕ → ℕ → Type 0} {q₀ w₀ q w : List ℕ} {t₀ t : ℕ} → Grown New q₀ w₀ t₀ q w t → Sub w₀ w
grows {New} {q₀} {w₀} {q} {w} g m h = in_eq w₀ w m (g.kept m h) h

pub grown_none : (New : ℕ → ℕ → Type 0) (q w : List ℕ) (t : ℕ) → Grown New q w t q w t
grown_none New q w t = record {
  lenq = refl;
  lenw = refl;
  tails = le_refl t;
  count = refl;
  kept = λ m h. refl;
  keptq = λ j l. refl;
  new = λ m h. inl h;
  newq = λ j a b. absurd (omega arith);
}

pub grown-map : {New New' : ℕ → ℕ → Type 0} {q₀ w₀ q w : List ℕ} {t₀ t : ℕ} → ((m x : ℕ) → New m x → New' m x) → Grown New q₀ w₀ t₀ q w t → Grown New' q₀ w₀ t₀ q w t
grown-map {New} {New'} {q₀} {w₀} {q} {w} {t₀} {t} f g = record {
  lenq = g.lenq;
  lenw = g.lenw;
  tails = g.tails;
  count = g.count;
  kept = g.kept;
  keptq = g.keptq;
  new = λ m h. ⊎_elim inl (λ k. inr (record { place = k.place; low = k.low; high = k.high; rank = k.rank; queued = k.queued; how = f m _ k.how })) (g.new m h);
  newq = g.newq;
}

pub grown_trans : {New : ℕ → ℕ → Type 0} {q₀ w₀ q₁ w₁ q₂ w₂ : List ℕ} {t₀ t₁ t₂ : ℕ} → Grown New q₀ w₀ t₀ q₁ w₁ t₁ → Grown New q₁ w₁ t₁ q₂ w₂ t₂ → Grown New q₀ w₀ t₀ q₂ w₂ t₂
grown_trans {New} {q₀} {w₀} {q₁} {w₁} {q₂} {w₂} {t₀} {t₁} {t₂} g h =
    let gt = g.tails in let ht = h.tails in record {
      lenq = h.lenq ∙ g.lenq;
      lenw = h.lenw ∙ g.lenw;
      tails = le_trans gt ht;
      count = h.count ∙ g.count;
      kept = λ m i. h.kept m (grows g m i) ∙ g.kept m i;
      keptq = λ j l. h.keptq j (omega arith) ∙ g.keptq j l;
      new = λ m i. ⊎_elim (λ j. ⊎_elim inl (λ k. inr (old m j k)) (g.new m j))
          (λ k. inr (record { place = k.place; low = le_trans gt k.low; high = k.high; rank = k.rank; queued = k.queued; how = k.how }))
          (h.new m i);
      newq = λ j a b. ⊎_elim
          (λ l. ap (λ (k : ℕ). rank (get_or w₂ k 0)) (h.keptq j l) ∙ ap rank (h.kept (get_or q₁ j 0) (ranked_in w₁ (get_or q₁ j 0) j (g.newq j a l))) ∙ g.newq j a l)
          (λ l. h.newq j l b)
          (split j t₁);
    }
  where
    old : (m : ℕ) → In w₁ m → Fresh New q₁ w₁ t₀ t₁ m → Fresh New q₂ w₂ t₀ t₂ m
    old m j k = record {
      place = k.place;
      low = k.low;
      high = let p = k.high in let q = h.tails in omega arith;
      rank = ap rank (h.kept m j) ∙ k.rank;
      queued = h.keptq k.place k.high ∙ k.queued;
      how = subst (λ (x : ℕ). New m x) (sym (h.kept m j)) k.how;
    }

pub grown_mark : (New : ℕ → ℕ → Type 0) (q w : List ℕ) (t m x : ℕ) → get_or w m 0 ≡ 0 → m < length w → t < length q → rank x ≡ t + 1
    → New m x → Grown New q w t (set q t m) (set w m x) (t + 1)
grown_mark New q w t m x z lw lq r n = record {
  lenq = length-set q t m;
  lenw = length-set w m x;
  tails = omega arith;
  count = omega (arith, zeros-set w m x (omega arith) lw z);
  kept = λ k h. get_or-set_other w m k x 0 (ne k h);
  keptq = λ j l. get_or-set_other q t j m 0 (omega arith);
  new = λ k h. ⊎_elim (λ e. inr (subst (λ (k : ℕ). Fresh New (set q t m) (set w m x) t (t + 1) k) (sym e) here)) inl (set_in w m x k h);
  newq = λ j a b. let e : j ≡ t = omega arith in
      subst (λ (i : ℕ). rank (get_or (set w m x) (get_or (set q t m) i 0) 0) ≡ i + 1) (sym e)
      (ap (λ (i : ℕ). rank (get_or (set w m x) i 0)) (get_or-set_same q t m 0 lq) ∙ ap rank (get_or-set_same w m x 0 lw) ∙ r);
}
  where
    ne : (k : ℕ) → In w k → k ≡ m → ⊥
    ne k h e = let q : In w m = subst (λ (i : ℕ). In w i) e h in omega arith

    here : Fresh New (set q t m) (set w m x) t (t + 1) m
    here = record {
      place = t;
      low = le_refl t;
      high = omega arith;
      rank = ap rank (get_or-set_same w m x 0 lw) ∙ r;
      queued = get_or-set_same q t m 0 lq;
      how = subst (λ (y : ℕ). New m y) (sym (get_or-set_same w m x 0 lw)) n;
    }

-- ---- spreading

module _ (ms : List ℕ) (fl : List ℤ) (all bk : Bool) (from undo lo : ℕ) where
  wider : {i m x : ℕ} → ViaNet ms fl all bk from undo lo i m x → ViaNet ms fl all bk from undo lo (i + 1) m x
  wider v = record { at = v.at; number = v.number; pin = pin_wider v.pin; gives = v.gives; to = v.to }

  pub spread_skip : {i t₀ t : ℕ} {q₀ w₀ q w : List ℕ} → Spread ms fl all bk from undo lo i q₀ w₀ t₀ q w t → (or all (ltb 0 (gift bk fl i)) ≡ true → In w (get_or ms i 0)) → Spread ms fl all bk from undo lo (i + 1) q₀ w₀ t₀ q w t
  spread_skip {i} {t₀} {t} {q₀} {w₀} {q} {w} k h = record {
    grown = grown-map (λ m x. wider) k.grown;
    done = pins_more (λ (b : ℕ). or all (ltb 0 (gift bk fl b)) ≡ true → In w (get_or ms b 0)) lo i k.done h;
  }

  pub spread_mark : {i t₀ t : ℕ} {q₀ w₀ q w : List ℕ} → Spread ms fl all bk from undo lo i q₀ w₀ t₀ q w t → lo ≤ i → or all (ltb 0 (gift bk fl i)) ≡ true → (m : ℕ) → m ≡ get_or ms i 0
      → get_or w m 0 ≡ 0 → m < length w → t < length q → {f : ℕ} → f ≡ way_from (ltb 0 (gift bk fl i)) from undo → f + i < 4294967296 → {x qm : ℕ} → x ≡ (t + 1) * 4294967296 + f + i → qm ≡ m
      → Spread ms fl all bk from undo lo (i + 1) q₀ w₀ t₀ (set q t qm) (set w m x) (t + 1)
  spread_mark {i} {t₀} {t} {q₀} {w₀} {q} {w} k li g m e z lw lq {f} ef lfi {x} {qm} ex eq = rw eq (record {
    grown = grown_trans (grown-map (λ m x. wider) k.grown) step;
    done = pins_more (λ (b : ℕ). or all (ltb 0 (gift bk fl b)) ≡ true → In (set w m x) (get_or ms b 0)) lo i
        (λ b p q. grows step (get_or ms b 0) (k.done b p q))
        (λ q. subst (λ (j : ℕ). In (set w m x) j) e (in_set_here w m x (omega arith) lw));
  })
    where
      numbered : x ≡ rank x * 4294967296 + way_from (ltb 0 (gift bk fl i)) from undo + i
      numbered = omega (arith, ex, lfi, ef)

      step : Grown (ViaNet ms fl all bk from undo lo (i + 1)) q w t (set q t m) (set w m x) (t + 1)
      step = grown_mark _ q w t m x z lw lq (omega arith) (record { at = i; number = numbered; pin = record { low = li; high = omega arith }; gives = g; to = sym e })

-- the same, where the code has the net's ends as locals
pub spread_at : {ms : List ℕ} {fl : List ℤ} {all bk : Bool} {from undo lo lo' hi hi' t t' : ℕ} {q₀ w₀ q w : List ℕ} → lo ≡ lo' → hi ≡ hi' →
    Spread ms fl all bk from undo lo hi q₀ w₀ t q w t' → Spread ms fl all bk from undo lo' hi' q₀ w₀ t q w t'
spread_at el eh k = rw (← el, ← eh) k

-- ---- room for one more

pub record Marks (q w : List ℕ) (t m : ℕ) : Type 0 where
  pub place : m < length w
  pub tail : t < length q
  pub few : t + 1 < 65536

pub ranked : {ms q₀ w₀ q w : List ℕ} {New : ℕ → ℕ → Type 0} {t₀ t : ℕ} → Room ms q₀ w₀ t₀ → Grown New q₀ w₀ t₀ q w t → (p m : ℕ) → p < length ms → m ≡ get_or ms p 0 → m < length w
ranked rm g p m l e = let a = rm.below p l in let b = g.lenw in omega arith

pub marks : {ms q₀ w₀ q w : List ℕ} {New : ℕ → ℕ → Type 0} {t₀ t : ℕ} → Room ms q₀ w₀ t₀ → Grown New q₀ w₀ t₀ q w t → (m : ℕ) → m < length w → get_or w m 0 ≡ 0 → Marks q w t m
marks {ms} {q₀} {w₀} {q} {w} rm g m l z =
    let a = zeros-set w m 1 (omega arith) l z in
    let d = g.count in record {
      place = l;
      tail = omega (arith, rm.lenq, rm.full, g.lenq, g.lenw);
      few = omega (arith, rm.few, rm.full, g.lenw);
    }
