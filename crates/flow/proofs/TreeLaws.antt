-- What the search found is a tree of the theory, and the set it reached is what the theory says a search reaches. In either direction. Assumes nothing.
use mathlib.Core.Path.{◌≡◌, refl, sym, ap, ◌∙◌, subst}
use mathlib.Core.Bool.{Bool, not}
use mathlib.Core.Logic.{◌≢◌, ◌⊎◌, inl, inr, ⊎_elim}
use mathlib.Core.List.{List}
use Prim.Native.Nat.{ℕ, zero, suc, ◌+◌, ◌-◌, ◌≤◌, ◌<◌}
use native.Mathlib.Nat.{not-suc-le-zero}
use native.Mathlib.Omega.{arith}
use lib.ListN.{length, drop, get_or}
use lib.Seq.{get_or-take, get_or-drop}
use lib.IntN.{ℤ, pos}
use lib.Dec.{T, eqb, eqb→eq, ltb→lt, lt→ltb, T_not, eqb_refl}
use Rattle.line.specs.Card.{Net, Card, Side, all_pins}
use Rattle.line.specs.Flow.{sent, taken, total_sent}
use Rattle.line.proofs.Ways.{plainly}
use Rattle.line.proofs.Index.{net_at, start, numbers, pin_at, start_in}
use Rattle.line.proofs.WayFlow.{Valid}
use Rattle.line.proofs.Path.{pin_of, tail, NetSpare, Spare, spare_passes}
use Rattle.line.proofs.Tree.{Twig, Tree, pin_module}
use Rattle.line.proofs.Turn.{Reached}
use Rattle.line.proofs.Search.{Forth, Open, forth_closed, closed_forth}
use Rattle.flow.specs.Search.{gift, In, rank, left, kind, entered, Pin, Way, Hop, St, Link, Mark, Found}
use Rattle.flow.specs.Cards.{Grid, side_of, up_of}
use Rattle.flow.proofs.CardLaws.{Made, grid_one}

abbrev pub rank_of : List ℕ → ℕ → ℕ
rank_of w m = rank (get_or w m 0)

-- the pin from which the room of net e is used
abbrev pub opener_of : Card → List ℕ → ℕ → ℕ
opener_of c sn e = get_or sn e 0 - 2 - start c.nets e

-- the search in its direction: xs is the flow, or what it takes for what it sends
pub record Sees (bk : Bool) (c : Card) (sm : List ℕ) (fl xs : List ℤ) : Type 0 where
  pub sent : (i : ℕ) → sent (get_or xs i (pos 0)) ≡ gift bk fl i
  pub taken : (i : ℕ) → taken (get_or xs i (pos 0)) ≡ gift (not bk) fl i
  pub sums : (e : ℕ) → e < length c.nets → total_sent (numbers c.nets xs e) ≡ get_or sm e 0

pub no_eqb : (k n : ℕ) → T (not (eqb k n)) → k ≡ n → ⊥
no_eqb k n t e = T_not (eqb k n) t (same k n e)
  where
    same : (k n : ℕ) → k ≡ n → T (eqb k n)
    same k n e = subst (λ (i : ℕ). T (eqb k i)) e (eqb_refl k)

-- a number of a net among all
pub number_at : (ns : List Net) (xs : List ℤ) (e i : ℕ) → i < length (net_at ns e).pins → get_or (numbers ns xs e) i (pos 0) ≡ get_or xs (start ns e + i) (pos 0)
number_at ns xs e i l = get_or-take (length (net_at ns e).pins) (drop (start ns e) xs) i (pos 0) l ∙ get_or-drop (start ns e) xs i (pos 0)

pub pin_global : (c : Card) (ms : List ℕ) → all_pins c.nets ≡ ms → (e i : ℕ) → e < length c.nets → i < length (net_at c.nets e).pins → pin_of c e i ≡ get_or ms (start c.nets e + i) 0
pin_global c ms q e i l k = sym (pin_at c.nets e l i k) ∙ ap (λ (ps : List ℕ). get_or ps (start c.nets e + i) 0) q

module _ (bk : Bool) (fs ms ws : List ℕ) (fl : List ℤ) (sm nt mk : List ℕ) (c : Card) (xs : List ℤ) (made : Made c fs ms ws) (grid : Grid c ms nt) (valid : Valid c)
    (modules : c.modules ≡ length mk) (marks : (m : ℕ) → c.mark m ≡ 1 → get_or mk m 0 ≡ Mark bk) (starts : (m : ℕ) → get_or mk m 0 ≡ Mark bk → c.mark m ≡ 1)
    (sees : Sees bk c sm fl xs) where
  -- a hop of the arrays, by the numbers of the card
  pub record Local (k a b e i j : ℕ) : Type 0 where
    pub net : e < length c.nets
    pub la : i < length (net_at c.nets e).pins
    pub lb : j < length (net_at c.nets e).pins
    pub at_a : start c.nets e + i ≡ a
    pub at_b : start c.nets e + j ≡ b
    pub tail : pin_of c e i ≡ get_or ms a 0
    pub head : pin_of c e j ≡ get_or ms b 0

  local : (k a b : ℕ) → Hop bk fs ws fl sm nt k a b → Local k a b (get_or nt a 0) (a - start c.nets (get_or nt a 0)) (b - start c.nets (get_or nt a 0))
  local k a b h =
      let e = get_or nt a 0 in
      let f = made.first e h.small in
      let z = made.size e h.small in
      let a1 = h.leaves.low in let a2 = h.leaves.high in let b1 = h.enters.low in let b2 = h.enters.high in
      let n : e < length c.nets = (let y = made.nets in let x = h.small in omega arith) in
      let la : a - start c.nets e < length (net_at c.nets e).pins = omega arith in
      let lb : b - start c.nets e < length (net_at c.nets e).pins = omega arith in
      let ea : start c.nets e + (a - start c.nets e) ≡ a = omega arith in
      let eb : start c.nets e + (b - start c.nets e) ≡ b = omega arith in record {
        net = n;
        la = la;
        lb = lb;
        at_a = ea;
        at_b = eb;
        tail = pin_global c ms grid.pins e (a - start c.nets e) n la ∙ ap (λ (i : ℕ). get_or ms i 0) ea;
        head = pin_global c ms grid.pins e (b - start c.nets e) n lb ∙ ap (λ (i : ℕ). get_or ms i 0) eb;
      }

  spare : (k a b : ℕ) (h : Hop bk fs ws fl sm nt k a b) → NetSpare (net_at c.nets (get_or nt a 0)) (numbers c.nets xs (get_or nt a 0)) 1
      (a - start c.nets (get_or nt a 0)) (b - start c.nets (get_or nt a 0)) (eqb k 1) (eqb k 2)
  spare k a b h =
      let e = get_or nt a 0 in
      let q = local k a b h in record {
        less = λ t. let g = h.way.less (eqb→eq k 1 t) in omega (arith, sees.taken a, ap taken (number_at c.nets xs e (a - start c.nets e) q.la ∙ ap (λ (i : ℕ). get_or xs i (pos 0)) q.at_a));
        back = λ t. let g = h.way.back (eqb→eq k 2 t) in omega (arith, sees.sent b, ap sent (number_at c.nets xs e (b - start c.nets e) q.lb ∙ ap (λ (i : ℕ). get_or xs i (pos 0)) q.at_b));
        room = λ t u. let g = h.way.room (first_kind k h.way.small (no_eqb k 1 t) (no_eqb k 2 u)) in omega (arith, sees.sums e q.net, made.weight e h.small);
      }
    where
      first_kind : (k : ℕ) → k ≤ 2 → (k ≡ 1 → ⊥) → (k ≡ 2 → ⊥) → k ≡ 0
      first_kind zero l p q = refl
      first_kind (suc zero) l p q = absurd (p refl)
      first_kind (suc (suc zero)) l p q = absurd (q refl)
      first_kind (suc (suc (suc k))) l p q = absurd (omega arith)

  -- a step of the theory is a hop
  hop_of : (e i j : ℕ) → e < length c.nets → i < length (net_at c.nets e).pins → j < length (net_at c.nets e).pins → Open plainly c xs e i j →
      (k : ℕ) × Hop bk fs ws fl sm nt k (start c.nets e + i) (start c.nets e + j)
  hop_of e i j l li lj o = go o.room
    where
      a : ℕ
      a = start c.nets e + i

      b : ℕ
      b = start c.nets e + j

      one : get_or nt a 0 ≡ e
      one = grid_one c ms nt grid e i l li

      small : e < length ws
      small = let y = made.nets in omega arith

      hop : (k : ℕ) → Way bk fl (get_or sm e 0) (get_or ws e 0) k a b → (k : ℕ) × Hop bk fs ws fl sm nt k a b
      hop k w = let f = made.first e small in let z = made.size e small in (
        k,
        record {
          leaves = subst (λ (n : ℕ). Pin (get_or fs n 0) (get_or fs (n + 1) 0) a) (sym one) (record { low = omega arith; high = omega arith });
          enters = subst (λ (n : ℕ). Pin (get_or fs n 0) (get_or fs (n + 1) 0) b) (sym one) (record { low = omega arith; high = omega arith });
          small = subst (λ (n : ℕ). n < length ws) (sym one) small;
          way = subst (λ (n : ℕ). Way bk fl (get_or sm n 0) (get_or ws n 0) k a b) (sym one) w;
        },
      )

      at_a : taken (get_or (numbers c.nets xs e) i (pos 0)) ≡ gift (not bk) fl a
      at_a = ap taken (number_at c.nets xs e i li) ∙ sees.taken a

      at_b : sent (get_or (numbers c.nets xs e) j (pos 0)) ≡ gift bk fl b
      at_b = ap sent (number_at c.nets xs e j lj) ∙ sees.sent b

      go : (1 ≤ taken (get_or (numbers c.nets xs e) i (pos 0))) ⊎ ((1 ≤ sent (get_or (numbers c.nets xs e) j (pos 0))) ⊎ (total_sent (numbers c.nets xs e) + 1 ≤ (net_at c.nets e).weight)) →
          (k : ℕ) × Hop bk fs ws fl sm nt k a b
      go (inl h) = hop 1 (record { small = omega arith; room = λ z. absurd (omega arith); less = λ _. omega (arith, at_a); back = λ z. absurd (omega arith) })
      go (inr (inl h)) = hop 2 (record { small = omega arith; room = λ z. absurd (omega arith); less = λ z. absurd (omega arith); back = λ _. omega (arith, at_b) })
      go (inr (inr h)) = hop 0 (record { small = omega arith; room = λ _. omega (arith, sees.sums e l, made.weight e small); less = λ z. absurd (omega arith); back = λ z. absurd (omega arith) })

  module _ (s : St) (found : Found bk fs ms ws fl sm nt mk s) where
    in_side : (m : ℕ) → In s.w m → T (side_of s.w m)
    in_side m h = lt→ltb 0 (get_or s.w m 0) h

    side_in : (m : ℕ) → T (side_of s.w m) → In s.w m
    side_in m t = ltb→lt 0 (get_or s.w m 0) t

    twig : (m : ℕ) → In s.w m → Link bk fs ms ws fl sm nt s m → Twig plainly c (rank_of s.w) (opener_of c s.sn) (side_of s.w) m (up_of c nt s.w m)
    twig m i k =
        let x = get_or s.w m 0 in
        let q = local (kind x) (left x) (entered x) k.hop in
        let from = q.tail in
        let to : pin_of c (get_or nt (left x) 0) (entered x - start c.nets (get_or nt (left x) 0)) ≡ m = q.head ∙ k.to in record {
          sound = record {
            net = q.net;
            a = q.la;
            b = q.lb;
            moves = λ e. let l = k.lower in let r : rank (get_or s.w (get_or ms (left x) 0) 0) ≡ rank x = ap (λ (n : ℕ). rank (get_or s.w n 0)) (sym from ∙ e ∙ to) in absurd (omega arith);
            sends = λ _. tt;
            takes = λ _. tt;
          };
          to = to;
          from = subst (λ (n : ℕ). T (side_of s.w n)) (sym from) (in_side (get_or ms (left x) 0) k.from);
          lower = subst (λ (n : ℕ). rank (get_or s.w n 0) < rank x) (sym from) k.lower;
          opened = λ t u. let o = k.opens (room_kind k.hop.way.small t u) in omega arith;
        }
      where
        room_kind : kind (get_or s.w m 0) ≤ 2 → T (not (eqb (kind (get_or s.w m 0)) 1)) → T (not (eqb (kind (get_or s.w m 0)) 2)) → kind (get_or s.w m 0) ≡ 0
        room_kind l t u = let p = no_eqb (kind (get_or s.w m 0)) 1 t in let q = no_eqb (kind (get_or s.w m 0)) 2 u in omega arith

    pub found_tree : Tree plainly c (rank_of s.w) (opener_of c s.sn) (up_of c nt s.w) (side_of s.w)
    found_tree m l t n = ⊎_elim (λ e. absurd (n (starts m e))) (twig m (side_in m t)) (found.link m (side_in m t))

    -- one more can pass by the step to each module that was reached
    pub found_spare : (m : ℕ) → T (side_of s.w m) → c.mark m ≢ 1 → Spare c xs 1 (up_of c nt s.w m)
    found_spare m t n = ⊎_elim (λ e. absurd (n (starts m e))) (λ k. spare (kind (get_or s.w m 0)) (left (get_or s.w m 0)) (entered (get_or s.w m 0)) k.hop) (found.link m (side_in m t))

    pub found_reached : Reached plainly c xs (side_of s.w)
    found_reached = record {
      meters = λ m l e. in_side m (found.meters m (omega (arith, modules)) (marks m e));
      closed = forth_closed plainly c xs (side_of s.w) forth;
      inside = λ t h k m l i. go t h (closed_forth plainly c xs t k) (suc (rank_of s.w m)) m l i (omega arith);
    }
      where
        forth : Forth plainly c xs (side_of s.w)
        forth e i j l li lj t o =
            let r = hop_of e i j l li lj o in
            let a = start c.nets e + i in
            let la : a < length ms = omega (arith, start_in c.nets e l, ap length grid.pins) in
            subst (λ (n : ℕ). T (side_of s.w n)) (sym (pin_global c ms grid.pins e j l lj))
            (in_side _ (found.closed a la (side_in _ (subst (λ (n : ℕ). T (side_of s.w n)) (pin_global c ms grid.pins e i l li) t)) r.0 (start c.nets e + j) r.1))

        go : (t : Side) → ((m : ℕ) → m < c.modules → c.mark m ≡ 1 → T (t m)) → Forth plainly c xs t → (n m : ℕ) → m < c.modules → T (side_of s.w m) → rank_of s.w m < n → T (t m)
        go t h f zero m l i r = absurd (not-suc-le-zero r)
        go t h f (suc n) m l i r =
            let rec = go t h f n in
            ⊎_elim (λ e. h m l (starts m e))
            (λ k. let g = twig m (side_in m i) k in
            let u = up_of c nt s.w m in
            subst (λ (v : ℕ). T (t v)) g.to
            (f u.net u.a u.b g.sound.net g.sound.a g.sound.b
            (rec (tail c u) (pin_module c valid u.net u.a g.sound.net g.sound.a) g.from (omega (arith, g.lower)))
            (spare_passes plainly c xs 1 u g.sound (spare (kind (get_or s.w m 0)) (left (get_or s.w m 0)) (entered (get_or s.w m 0)) k.hop))))
            (found.link m (side_in m i))
