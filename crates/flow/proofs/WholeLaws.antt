-- The rounds together: each search gives a tree, each round a higher value or the near side; and the far side from a search backwards. Assumes nothing.
use mathlib.Core.Path.{◌≡◌, refl, sym, ap, ap₂, ◌∙◌}
use mathlib.Core.Bool.{Bool, true, false, not}
use mathlib.Core.Logic.{◌≢◌, ⊎_elim}
use mathlib.Core.List.{List}
use Prim.Native.Nat.{ℕ, suc, ◌+◌, ◌-◌, ◌≤◌, ◌<◌}
use native.Mathlib.Omega.{arith}
use lib.ListN.{length, take, drop, get_or}
use lib.IntN.{ℤ, pos, negsuc}
use lib.Signed.{◌≤ℤ◌}
use lib.Dec.{T, leb→le, ltb→lt, lt→ltb}
use Rattle.line.specs.Card.{Card, price, Far, outside}
use Rattle.line.specs.Flow.{sent, taken, total_sent, NetRule, Fair, value, meters}
use Rattle.line.proofs.Ways.{plainly}
use Rattle.line.proofs.WayFlow.{Valid}
use Rattle.line.proofs.Index.{net_at, start_in, numbers, each_at}
use Rattle.line.proofs.Push.{more_sent, more_taken}
use Rattle.line.proofs.Path.{Spare}
use Rattle.line.proofs.Tree.{Tree, walk_sound, walk_every, walk_pairwise, walk_leads, meters_separate}
use Rattle.line.proofs.Turn.{Reached, turn, turn_mark, mark_1, negs, sent-negs, taken-negs, numbers-negs, total_sent-negs, valid_turn, reached_far, search_near}
use Rattle.line.proofs.Cheap.{far_plain}
use Rattle.line.proofs.Duality.{fair_plain, closed_plain, plain_closed, weak_duality, closed_price, price_closed}
use Rattle.flow.specs.Search.{In, left, entered, St, Link, Found, Tables}
use Rattle.flow.specs.declared.board.Board.{Board}
use Rattle.flow.specs.Board.{board_card}
use Rattle.flow.specs.Cards.{card_of, Laid, Grid, side_of, up_of}
use Rattle.flow.specs.Push.{Trod}
use Rattle.flow.specs.Raise.{Field, Route, Routes, Steady, OpenWay, Gained, Summed, Summable, part_of, Raised, Greatest}
use Rattle.flow.proofs.BoardLaws.{tables_of, heavy_of}
use Rattle.flow.proofs.CardLaws.{Made, card_made, card_valid, card_modules, card_mark, grid_of, run_net}
use Rattle.flow.proofs.TreeLaws.{rank_of, opener_of, Sees, found_tree, found_spare, found_reached}

-- ---- one search

module _ (fs ms ws nt at pl mk : List ℕ) (laid : Laid fs ms ws mk) (tables : Tables fs ms ws nt at pl (length mk)) (few : length ms < 16384)
    (heavy : (e : ℕ) → e < length ws → get_or ws e 0 ≤ 65535) (sm : List ℕ) (fl : List ℤ) (s : Steady (card_of fs ms ws mk) ms sm fl) where
  c : Card
  c = card_of fs ms ws mk

  made : Made (card_of fs ms ws mk) fs ms ws
  made = card_made fs ms ws mk laid

  grid : Grid (card_of fs ms ws mk) ms nt
  grid = grid_of (card_of fs ms ws mk) fs ms ws nt at pl (length mk) made tables

  valid : Valid (card_of fs ms ws mk)
  valid = card_valid fs ms ws mk laid

  sees : Sees false (card_of fs ms ws mk) sm fl fl
  sees = record { sent = λ i. refl; taken = λ i. refl; sums = λ e l. sym (s.sums.sum e l) }

  module _ (t : St) (found : Found false fs ms ws fl sm nt mk t) where
    trod : (m : ℕ) → Link false fs ms ws fl sm nt t m → Trod ms nt t.w (length (card_of fs ms ws mk).nets) m
    trod m k =
        let x = get_or t.w m 0 in
        let n = get_or nt (left x) 0 in
        let h = k.hop in
        let i = tables.inside n h.small in
        let a = h.leaves.high in
        let b = h.enters.high in record {
          in_left = omega arith;
          in_entered = omega arith;
          net = omega (arith, h.small, made.nets);
          same = run_net (card_of fs ms ws mk) fs ms ws nt made grid n (entered x) h.small h.enters;
          from = k.from;
          lower = k.lower;
        }

    pub field_of : Field (card_of fs ms ws mk) ms ws nt mk t.w
    field_of = record {
      ground = record {
        grid = grid;
        trail = record {
          lenw = found.len;
          nts = tables.counts;
          few = few;
          ranks = λ m i. (found.ranks m i).1;
          step = λ m i n. ⊎_elim (λ e. absurd (n e)) (trod m) (found.link m i);
        };
        valid = valid;
        modules = card_modules fs ms ws mk laid;
        mark = card_mark fs ms ws mk laid;
        weights = λ e l. let l' : e < length ws = omega (arith, made.nets) in omega (arith, heavy e l', made.weight e l');
      };
      nets = made.nets;
      weight = made.weight;
    }

    tree : Tree plainly (card_of fs ms ws mk) (rank_of t.w) (opener_of (card_of fs ms ws mk) t.sn) (up_of (card_of fs ms ws mk) nt t.w) (side_of t.w)
    tree = found_tree false fs ms ws fl sm nt mk (card_of fs ms ws mk) fl made grid valid (card_modules fs ms ws mk laid)
        (λ m e. sym (card_mark fs ms ws mk laid m) ∙ e) (λ m e. card_mark fs ms ws mk laid m ∙ e) sees t found

    spares : (m : ℕ) → T (side_of t.w m) → (card_of fs ms ws mk).mark m ≢ 1 → Spare (card_of fs ms ws mk) fl 1 (up_of (card_of fs ms ws mk) nt t.w m)
    spares = found_spare false fs ms ws fl sm nt mk (card_of fs ms ws mk) fl made grid valid (card_modules fs ms ws mk laid)
        (λ m e. sym (card_mark fs ms ws mk laid m) ∙ e) (λ m e. card_mark fs ms ws mk laid m ∙ e) sees t found

    reached : Reached plainly (card_of fs ms ws mk) fl (side_of t.w)
    reached = found_reached false fs ms ws fl sm nt mk (card_of fs ms ws mk) fl made grid valid (card_modules fs ms ws mk laid)
        (λ m e. sym (card_mark fs ms ws mk laid m) ∙ e) (λ m e. card_mark fs ms ws mk laid m ∙ e) sees t found

    module _ (z : ℕ) (lz : z < length mk) (e : get_or mk z 0 ≡ 2) (i : In t.w z) where
      low : z < (card_of fs ms ws mk).modules
      low = omega (arith, card_modules fs ms ws mk laid)

      in_side : T (side_of t.w z)
      in_side = lt→ltb 0 (get_or t.w z 0) i

      pub route_of : Route (card_of fs ms ws mk) nt mk t.w z
      route_of = record {
        from = i;
        maker = card_mark fs ms ws mk laid z ∙ e;
        sound = walk_sound plainly (card_of fs ms ws mk) valid (rank_of t.w) (opener_of (card_of fs ms ws mk) t.sn) (up_of (card_of fs ms ws mk) nt t.w) (side_of t.w) tree (suc (length mk)) z low in_side;
        apart = walk_pairwise plainly (card_of fs ms ws mk) valid (rank_of t.w) (opener_of (card_of fs ms ws mk) t.sn) (up_of (card_of fs ms ws mk) nt t.w) (side_of t.w) tree (suc (length mk)) z low in_side;
        leads = walk_leads plainly (card_of fs ms ws mk) valid (rank_of t.w) (opener_of (card_of fs ms ws mk) t.sn) (up_of (card_of fs ms ws mk) nt t.w) (side_of t.w) tree (suc (length mk)) z low in_side
            (omega (arith, (found.ranks z i).1));
      }

      pub open_of : OpenWay (card_of fs ms ws mk) nt mk t.w fl z
      open_of = walk_every plainly (card_of fs ms ws mk) valid (rank_of t.w) (opener_of (card_of fs ms ws mk) t.sn) (up_of (card_of fs ms ws mk) nt t.w) (side_of t.w) tree (Spare (card_of fs ms ws mk) fl 1) (λ m l i n. spares m i n) (suc (length mk)) z low in_side

    no_maker : ((z : ℕ) → z < length mk → get_or mk z 0 ≡ 2 → In t.w z → ⊥) → (m : ℕ) → m < (card_of fs ms ws mk).modules → (card_of fs ms ws mk).mark m ≡ 2 → T (not (side_of t.w m))
    no_maker n m l e = go (side_of t.w m) (λ h. n m (omega (arith, card_modules fs ms ws mk laid)) (sym (card_mark fs ms ws mk laid m) ∙ e) (ltb→lt 0 (get_or t.w m 0) h))
      where
        go : (b : Bool) → (T b → ⊥) → T (not b)
        go true f = absurd (f tt)
        go false f = tt

    -- no maker was reached: it is the near side
    pub raised_of : ((z : ℕ) → z < length mk → get_or mk z 0 ≡ 2 → In t.w z → ⊥) → Raised (card_of fs ms ws mk) ms sm fl (side_of t.w)
    raised_of n = record {
      fair = s.fair;
      flows = s.flows;
      sums = s.sums;
      value = closed_price (card_of fs ms ws mk) valid fl s.fair (side_of t.w) (record { meters = reached.meters; makers = no_maker n }) (closed_plain (card_of fs ms ws mk) (side_of t.w) fl reached.closed);
      near = search_near (card_of fs ms ws mk) valid fl s.fair (side_of t.w) reached (no_maker n);
    }

-- what a search on a board tells of the round that it begins
pub record Searched (c : Card) (ms ws nt mk w sm : List ℕ) (fl : List ℤ) : Type 0 where
  pub field : Field c ms ws nt mk w
  pub routes : Routes c nt mk w
  pub opens : (z : ℕ) → z < length mk → get_or mk z 0 ≡ 2 → In w z → OpenWay c nt mk w fl z
  pub near : ((z : ℕ) → z < length mk → get_or mk z 0 ≡ 2 → In w z → ⊥) → Raised c ms sm fl (side_of w)

pub searched : (b : Board) → Laid b.first.now b.mods.now b.weight.now b.mark.now → {sm : List ℕ} {fl : List ℤ} → Steady (board_card b) b.mods.now sm fl → (t : St)
    → Found false b.first.now b.mods.now b.weight.now fl sm b.nets.now b.mark.now t → Searched (board_card b) b.mods.now b.weight.now b.nets.now b.mark.now t.w sm fl
searched b laid s t f = record {
  field = field_of _ _ _ _ _ _ _ laid (tables_of b) b.few (heavy_of b) _ _ s t f;
  routes = route_of _ _ _ _ _ _ _ laid (tables_of b) b.few (heavy_of b) _ _ s t f;
  opens = open_of _ _ _ _ _ _ _ laid (tables_of b) b.few (heavy_of b) _ _ s t f;
  near = raised_of _ _ _ _ _ _ _ laid (tables_of b) b.few (heavy_of b) _ _ s t f;
}

-- ---- the rounds end

-- how far a value is from the price of the meters alone
abbrev pub to_come : Card → List ℤ → ℕ
to_come c fl = price c.nets (meters c) + taken (value c fl) - sent (value c fl)

sent-le : (z : ℤ) (n : ℕ) → z ≤ℤ pos n → sent z ≤ n
sent-le (pos m) n h = leb→le m n h.le
sent-le (negsuc m) n h = omega arith

pub comes_less : (c : Card) → Valid c → (ms sm sm' : List ℕ) (fl fl' : List ℤ) (g : Gained c ms sm fl sm' fl') → 0 < g.more → to_come c fl' < to_come c fl
comes_less c valid ms sm sm' fl fl' g h =
    let p = sent-le (value c fl') (price c.nets (meters c)) (weak_duality c valid fl' g.steady.fair (meters c) (meters_separate c)) in
    let e = ap sent g.gain in
    let f = ap taken g.gain in
    omega (arith, more_sent (value c fl) g.more, more_taken (value c fl) g.more)

-- ---- the far side

module _ (fs ms ws nt at pl mk : List ℕ) (laid : Laid fs ms ws mk) (tables : Tables fs ms ws nt at pl (length mk)) (few : length ms < 16384)
    (sm : List ℕ) (fl : List ℤ) (g : Greatest (card_of fs ms ws mk) ms sm fl) where
  card_made' : Made (turn (card_of fs ms ws mk)) fs ms ws
  card_made' = let m = card_made fs ms ws mk laid in record { nets = m.nets; weight = m.weight; first = m.first; size = m.size; pins = m.pins }

  grid' : Grid (turn (card_of fs ms ws mk)) ms nt
  grid' = grid_of (turn (card_of fs ms ws mk)) fs ms ws nt at pl (length mk) card_made' tables

  sees' : Sees true (turn (card_of fs ms ws mk)) sm fl (negs fl)
  sees' = record {
    sent = sent-negs fl;
    taken = taken-negs fl;
    sums = λ e l. let ns = (card_of fs ms ws mk).nets in
        ap total_sent (numbers-negs ns fl e) ∙ total_sent-negs (numbers ns fl e) (each_at NetRule ns fl g.steady.fair.nets e l).zero ∙ sym (g.steady.sums.sum e l);
  }

  pub far_of : (t : St) → Found true fs ms ws fl sm nt mk t → Far (card_of fs ms ws mk) (outside (side_of t.w))
  far_of t found =
      let c = card_of fs ms ws mk in
      let valid = card_valid fs ms ws mk laid in
      let mark = card_mark fs ms ws mk laid in
      let fair = g.steady.fair in
      far_plain c (outside (side_of t.w))
      (reached_far plainly c valid fl (fair_plain c fl fair) g.side g.separates
      (plain_closed c g.side fl (price_closed c valid fl fair g.side g.separates g.value))
      (side_of t.w)
      (found_reached true fs ms ws fl sm nt mk (turn c) (negs fl) card_made' grid' (valid_turn c valid) (card_modules fs ms ws mk laid)
      (λ m e. sym (mark m) ∙ mark_1 (c.mark m) e) (λ m e. ap turn_mark (mark m ∙ e)) sees' t found))

-- ---- what raise begins with

module _ (fs ms ws mk : List ℕ) (laid : Laid fs ms ws mk) (heavy : (e : ℕ) → e < length ws → get_or ws e 0 ≤ 65535) (fl : List ℤ)
    (fair : Fair (card_of fs ms ws mk) fl) (flows : length fl ≡ length ms) where
  numbers_part : (e : ℕ) → e < length ws → numbers (card_of fs ms ws mk).nets fl e ≡ part_of fs fl e
  numbers_part e l =
      let m = card_made fs ms ws mk laid in
      let k : length (net_at (card_of fs ms ws mk).nets e).pins ≡ get_or fs (e + 1) 0 - get_or fs e 0 = omega (arith, m.size e l) in
      ap₂ (λ (i j : ℕ). take i (drop j fl)) k (m.first e l)

  pub summable_of : (N : ℕ) → N ≡ length ws → Summable fs fl N
  summable_of N e_n =
      let m = card_made fs ms ws mk laid in record {
        firsts = omega (arith, laid.firsts);
        rises = λ n l. laid.rises n (omega arith);
        ends = λ n l. let l' : n < length ws = omega arith in
            let i : n < length (card_of fs ms ws mk).nets = omega (arith, m.nets) in
            omega (arith, m.first n l', m.size n l', start_in (card_of fs ms ws mk).nets n i, ap length m.pins);
        few = λ n l. let l' : n < length ws = omega arith in
            let i : n < length (card_of fs ms ws mk).nets = omega (arith, m.nets) in
            omega (arith, ap total_sent (numbers_part n l'), (each_at NetRule (card_of fs ms ws mk).nets fl fair.nets n i).fits, m.weight n l', heavy n l');
      }

  pub steady_of : (sm : List ℕ) → length sm ≡ length ws → Summed fs fl (length sm) sm → Steady (card_of fs ms ws mk) ms sm fl
  steady_of sm ls su =
      let m = card_made fs ms ws mk laid in record {
        fair = fair;
        sums = record { len = ls ∙ sym m.nets; sum = λ e l. let l' : e < length ws = omega (arith, m.nets) in su.sum e (omega arith) ∙ sym (ap total_sent (numbers_part e l')) };
        flows = flows;
      }
