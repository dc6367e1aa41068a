-- The search by a queue: it begins at the marked modules and visits in turn all that it reaches; at its end no step leaves them. Assumes nothing.
use mathlib.Core.Path.{◌≡◌, refl, sym, ap, ◌∙◌, subst, subst₂}
use mathlib.Core.Bool.{Bool}
use mathlib.Core.Logic.{◌⊎◌, inl, inr, ⊎_elim}
use mathlib.Core.List.{List, [], ◌∷◌}
use Prim.Native.Nat.{ℕ, ◌+◌, ◌*◌, ◌≤◌, ◌<◌}
use native.Mathlib.Nat.{not-suc-le-zero}
use native.Mathlib.Omega.{arith}
use lib.ListN.{length, get_or, set, take, length-set}
use lib.Seq.{get_or-set_same, get_or-set_other, take-suc-set}
use native.Mathlib.Numerals.{add-one}
use borrow.Author.Count.{below_more}
use lib.IntN.{ℤ}
use Rattle.flow.specs.Search.{In, zeros, rank, left, kind, entered, Pin, Hop, St, Fresh, Grown, Seen, ViaHop, PinsDone, Whole, Link, Mark, Begun, Found}
use Rattle.flow.proofs.Pins.{split}
use Rattle.flow.proofs.Sets.{in_eq, in_set, in_set_here, set_in, zeros-append, zeros_one}
use Rattle.flow.proofs.SpreadLaws.{grows, ranked_in}

pub record Placed (s : St) (t m : ℕ) : Type 0 where
  pub place : ℕ
  pub high : place < t
  pub rank : rank (get_or s.w m 0) ≡ place + 1
  pub queued : get_or s.q place 0 ≡ m

-- the search with the queue's head at h and its tail at t
pub record Bfs (bk : Bool) (fs ms ws : List ℕ) (fl : List ℤ) (sm nt mk : List ℕ) (s : St) (h t : ℕ) : Type 0 where
  pub len : length s.w ≡ length mk
  pub lenq : length s.q ≡ length s.w
  pub lens : length s.sn ≡ length ws
  pub full : t + zeros s.w ≡ length s.w
  pub heads : h ≤ t
  pub place : (m : ℕ) → In s.w m → Placed s t m
  pub inq : (j : ℕ) → j < t → rank (get_or s.w (get_or s.q j 0) 0) ≡ j + 1
  pub meters : (m : ℕ) → m < length mk → get_or mk m 0 ≡ Mark bk → In s.w m
  pub link : (m : ℕ) → In s.w m → (get_or mk m 0 ≡ Mark bk) ⊎ Link bk fs ms ws fl sm nt s m
  pub seen : Seen bk fs ms ws fl s.w s.sn
  pub done : (m : ℕ) → In s.w m → rank (get_or s.w m 0) ≤ h → (a : ℕ) → a < length ms → get_or ms a 0 ≡ m → (k b : ℕ) → Hop bk fs ws fl sm nt k a b → In s.w (get_or ms b 0)

-- ---- the start

module _ (k : ℕ) (mk : List ℕ) where
  pub begun_none : (q w : List ℕ) → length w ≡ length mk → length q ≡ length mk → Begun k mk 0 q w 0
  unfolding zeros
  begun_none q w ew eq = record {
    lw = ew;
    lq = eq;
    meters = λ m l. absurd (not-suc-le-zero l);
    only = λ m l. absurd (not-suc-le-zero l);
    place = λ m l. absurd (not-suc-le-zero l);
    inq = λ j l. absurd (not-suc-le-zero l);
    count = refl;
  }

  pub begun_yes : {i t : ℕ} {q w : List ℕ} → Begun k mk i q w t → i < length mk → get_or mk i 0 ≡ k → {x y : ℕ} → x ≡ (t + 1) * 4294967296 + 0 + 0 → y ≡ i → Begun k mk (i + 1) (set q t y) (set w i x) (t + 1)
  begun_yes {i} {t} {q} {w} s l e {x} {y} ex ey = rw ey (
      let c = s.count in
      let a = s.lw in
      let b = s.lq in
      let rx : rank x ≡ t + 1 = omega arith in
      let hw : i < length w = omega arith in
      let hq : t < length q = omega arith in record {
        lw = length-set w i x ∙ s.lw;
        lq = length-set q t i ∙ s.lq;
        meters = below_more _ i (λ m h z. in_set w i x m (omega arith) hw (s.meters m h z)) (λ z. in_set_here w i x (omega arith) hw);
        only = below_more _ i (λ m h z. ⊎_elim (λ j. absurd (omega arith)) (s.only m h) (set_in w i x m z)) (λ z. e);
        place = below_more _ i
            (λ m h z. let f : get_or (set w i x) m 0 ≡ get_or w m 0 = get_or-set_other w i m x 0 (omega arith) in
            let p = s.place m h (in_eq (set w i x) w m (sym f) z) in
            let pl = p.1 in
            (p.0, (omega arith), ap rank f ∙ p.2, get_or-set_other q t p.0 i 0 (omega arith) ∙ p.3))
            (λ z. (t, (omega arith), ap rank (get_or-set_same w i x 0 hw) ∙ rx, get_or-set_same q t i 0 hq));
        inq = below_more _ t
            (λ j h. let p = s.inq j h in let f : get_or (set q t i) j 0 ≡ get_or q j 0 = get_or-set_other q t j i 0 (omega arith) in let pl = p.0 in
            (omega arith, ap (λ (n : ℕ). rank (get_or (set w i x) n 0)) f ∙ ap rank (get_or-set_other w i (get_or q j 0) x 0 (omega arith)) ∙ p.1))
            (let f : get_or (set q t i) t 0 ≡ i = get_or-set_same q t i 0 hq in
            (omega arith, ap (λ (n : ℕ). rank (get_or (set w i x) n 0)) f ∙ ap rank (get_or-set_same w i x 0 hw) ∙ rx));
        count = rw (add-one i) (rw (take-suc-set w i x hw) (omega (arith, zeros-append (take i w) (x ∷ []), zeros_one x (omega arith))));
      })

  pub begun_no : {i t : ℕ} {q w : List ℕ} → Begun k mk i q w t → i < length mk → (get_or mk i 0 ≡ k → ⊥) → Begun k mk (i + 1) q (set w i 0) t
  unfolding zeros
  begun_no {i} {t} {q} {w} s l n =
      let c = s.count in
      let a = s.lw in
      let hw : i < length w = omega arith in record {
        lw = length-set w i 0 ∙ s.lw;
        lq = s.lq;
        meters = below_more _ i (λ m h z. in_eq w (set w i 0) m (get_or-set_other w i m 0 0 (omega arith)) (s.meters m h z)) (λ z. absurd (n z));
        only = below_more _ i (λ m h z. s.only m h (in_eq (set w i 0) w m (sym (get_or-set_other w i m 0 0 (omega arith))) z)) (λ z. let f = get_or-set_same w i 0 0 hw in absurd (omega arith));
        place = below_more _ i
            (λ m h z. let f : get_or (set w i 0) m 0 ≡ get_or w m 0 = get_or-set_other w i m 0 0 (omega arith) in
            let p = s.place m h (in_eq (set w i 0) w m (sym f) z) in (p.0, p.1, ap rank f ∙ p.2, p.3))
            (λ z. let f = get_or-set_same w i 0 0 hw in absurd (omega arith));
        inq = λ j h. let p = s.inq j h in let pl = p.0 in (omega arith, ap rank (get_or-set_other w i (get_or q j 0) 0 0 (omega arith)) ∙ p.1);
        count = rw (add-one i) (rw (take-suc-set w i 0 hw) (omega (arith, zeros-append (take i w) (0 ∷ []))));
      }

pub cleared : (x : List ℕ) (n : ℕ) → n < length x → ((j : ℕ) → j < n → get_or x j 0 ≡ 0) → (j : ℕ) → j < n + 1 → get_or (set x n 0) j 0 ≡ 0
cleared x n l h = below_more _ n (λ j k. get_or-set_other x n j 0 0 (omega arith) ∙ h j k) (get_or-set_same x n 0 0 l)

-- ---- the search

module _ (bk : Bool) (fs ms ws : List ℕ) (fl : List ℤ) (sm nt mk : List ℕ) where
  module _ (at pl : List ℕ) where
    pub bfs_more : {s s' : St} {h t t' u M : ℕ} → Bfs bk fs ms ws fl sm nt mk s h t → Whole fs ms ws nt at pl sm fl M → h < t → u ≡ get_or s.q h 0
        → PinsDone bk fs ms ws fl sm nt pl u (get_or at u 0) (get_or at (u + 1) 0) s t s' t' → Bfs bk fs ms ws fl sm nt mk s' (h + 1) t'
    bfs_more {s} {s'} {h} {t} {t'} {u} {M} b w l eu d =
        let xw = g.lenw in let xq = g.lenq in record {
          len = xw ∙ b.len;
          lenq = xq ∙ b.lenq ∙ sym xw;
          lens = d.marked.len ∙ b.lens;
          full = g.count ∙ b.full ∙ sym xw;
          heads = let x = g.tails in omega arith;
          place = λ m i. ⊎_elim (λ j. kept m j (b.place m j)) (λ f. record { place = f.place; high = f.high; rank = f.rank; queued = f.queued }) (g.new m i);
          inq = λ j k. ⊎_elim
              (λ n. ap (λ (i : ℕ). rank (get_or s'.w i 0)) (g.keptq j n) ∙ ap rank (g.kept (get_or s.q j 0) (ranked_in s.w (get_or s.q j 0) j (b.inq j n))) ∙ b.inq j n)
              (λ n. g.newq j n k)
              (split j t);
          meters = λ m k e. grows g m (b.meters m k e);
          link = λ m i. ⊎_elim (λ j. ⊎_elim inl (λ k. inr (old m j k)) (b.link m j)) (λ f. inr (new m i f)) (g.new m i);
          seen = d.seen;
          done = λ m i k a la ea c hop. ⊎_elim (λ j. before m j k a la ea c hop) (λ f. let x = f.rank in let y = f.low in absurd (omega arith)) (g.new m i);
        }
      where
        g : Grown (ViaHop bk fs ms ws fl sm nt u) s.q s.w t s'.q s'.w t'
        g = d.grown

        in_u : In s.w u
        in_u = subst (λ (i : ℕ). In s.w i) (sym eu) (ranked_in s.w (get_or s.q h 0) h (b.inq h l))

        kept : (m : ℕ) → In s.w m → Placed s t m → Placed s' t' m
        kept m j p = record { place = p.place; high = let x = p.high in let y = g.tails in omega arith; rank = ap rank (g.kept m j) ∙ p.rank; queued = g.keptq p.place p.high ∙ p.queued }

        old : (m : ℕ) → In s.w m → Link bk fs ms ws fl sm nt s m → Link bk fs ms ws fl sm nt s' m
        old m j k =
            let e = g.kept m j in
            let v = get_or ms (left (get_or s.w m 0)) 0 in
            let em : get_or ms (left (get_or s'.w m 0)) 0 ≡ v = ap (λ (x : ℕ). get_or ms (left x) 0) e in record {
              hop = subst (λ (x : ℕ). Hop bk fs ws fl sm nt (kind x) (left x) (entered x)) (sym e) k.hop;
              to = ap (λ (x : ℕ). get_or ms (entered x) 0) e ∙ k.to;
              from = subst (λ (i : ℕ). In s'.w i) (sym em) (grows g v k.from);
              lower = subst₂ (λ (x y : ℕ). rank (get_or s'.w x 0) < rank y) (sym em) (sym e)
                  (subst (λ (x : ℕ). rank x < rank (get_or s.w m 0)) (sym (g.kept v k.from)) k.lower);
              opens = subst (λ (x : ℕ). kind x ≡ 0 → get_or s'.sn (get_or nt (left x) 0) 0 ≡ left x + 2) (sym e)
                  (λ z. let o = k.opens z in d.marked.kept (get_or nt (left (get_or s.w m 0)) 0) (omega arith) ∙ o);
            }

        new : (m : ℕ) → In s'.w m → Fresh (ViaHop bk fs ms ws fl sm nt u) s'.q s'.w t t' m → Link bk fs ms ws fl sm nt s' m
        new m i f =
            let p = b.place u in_u in record {
              hop = f.how.hop;
              to = f.how.to;
              from = subst (λ (i : ℕ). In s'.w i) (sym f.how.from) (grows g u in_u);
              lower = subst (λ (i : ℕ). rank (get_or s'.w i 0) < rank (get_or s'.w m 0)) (sym f.how.from)
                  (subst (λ (x : ℕ). rank x < rank (get_or s'.w m 0)) (sym (g.kept u in_u))
                  (let y = p.rank in let z = p.high in let c = f.rank in let e = f.low in omega arith));
              opens = ⊎_elim (λ j. let p = b.place m j in let x = p.rank in let y = p.high in let z = f.rank in let v = f.low in
                  let k : rank (get_or s'.w m 0) ≡ rank (get_or s.w m 0) = ap rank (g.kept m j) in absurd (omega arith)) (λ o. o) (d.marked.opens m i);
            }

        here : (a : ℕ) → a < length ms → get_or ms a 0 ≡ u → (k c : ℕ) → Hop bk fs ws fl sm nt k a c → In s'.w (get_or ms c 0)
        here a la ea k c hop =
            let r = w.tables.all a la in
            d.done r.0 (subst (λ (v : ℕ). Pin (get_or at v 0) (get_or at (v + 1) 0) r.0) ea r.1) k c (subst (λ (i : ℕ). Hop bk fs ws fl sm nt k i c) (sym r.2) hop)

        before : (m : ℕ) → In s.w m → rank (get_or s'.w m 0) ≤ h + 1 → (a : ℕ) → a < length ms → get_or ms a 0 ≡ m → (k c : ℕ) → Hop bk fs ws fl sm nt k a c → In s'.w (get_or ms c 0)
        before m j lr a la ea k c hop =
            let x : rank (get_or s'.w m 0) ≡ rank (get_or s.w m 0) = ap rank (g.kept m j) in
            let p = b.place m j in
            let y = p.rank in
            ⊎_elim
            (λ n. grows g (get_or ms c 0) (b.done m j (omega arith) a la ea k c hop))
            (λ n. let z : p.place ≡ h = omega arith in
            let mu : m ≡ u = sym p.queued ∙ ap (λ (i : ℕ). get_or s.q i 0) z ∙ sym eu in
            here a la (ea ∙ mu) k c hop)
            (split p.place h)

  pub bfs_end : {s : St} {h t : ℕ} → Bfs bk fs ms ws fl sm nt mk s h t → t ≤ h → Found bk fs ms ws fl sm nt mk s
  bfs_end {s} {h} {t} b l = record {
    len = b.len;
    ranks = λ m i. let p = b.place m i in let x = p.rank in let y = p.high in let f = b.full in let n = b.len in (omega arith, omega arith);
    meters = b.meters;
    link = b.link;
    closed = λ a la i k c hop. let p = b.place (get_or ms a 0) i in let x = p.rank in let y = p.high in b.done (get_or ms a 0) i (omega arith) a la refl k c hop;
  }
