-- A way that ends at a maker is a route of the engine: its modules are a tree of the theory, whatever the flow is. Assumes nothing.
use mathlib.Core.Path.{◌≡◌, refl, sym, ap, ◌∙◌, subst}
use mathlib.Core.Logic.{◌≢◌}
use mathlib.Core.List.{List}
use Prim.Native.Nat.{ℕ, suc, ◌+◌, ◌-◌, ◌≤◌, ◌<◌}
use native.Mathlib.Omega.{arith}
use lib.ListN.{length, get_or}
use lib.IntN.{ℤ}
use lib.Dec.{T, ltb→lt, lt→ltb}
use Rattle.line.specs.Card.{Card}
use Rattle.line.proofs.Ways.{plainly}
use Rattle.line.proofs.WayFlow.{Valid}
use Rattle.line.proofs.Index.{net_at, start}
use Rattle.line.proofs.Path.{pin_of}
use Rattle.line.proofs.Tree.{Twig, Tree, walk_sound, walk_pairwise, walk_leads}
use Rattle.flow.specs.Search.{In, rank, left, kind, entered}
use Rattle.flow.specs.Cards.{Grid, side_of, up_of}
use Rattle.flow.specs.declared.board.Board.{Board}
use Rattle.flow.specs.Board.{board_card}
use Rattle.flow.specs.Push.{Trail, Level}
use Rattle.flow.specs.Raise.{Field, Route, Steady, MayCarry, Carried}
use Rattle.flow.proofs.BoardLaws.{tables_of, heavy_of}
use Rattle.flow.proofs.CardLaws.{Made, card_made, card_valid, card_modules, card_mark, grid_of}
use Rattle.flow.proofs.TreeLaws.{rank_of, no_eqb, pin_global}
use Rattle.flow.proofs.RaiseLaws.{level_of}
use Rattle.climb.specs.Climb.{Guided, Thread}
use Rattle.climb.proofs.Threads.{tip_below}

-- the pin from which the room of net e is used: the one that the module it leads to was reached from
abbrev opener_of : Card → List ℕ → List ℕ → ℕ → ℕ
opener_of c w sn e = left (get_or w (get_or sn e 0 - 1) 0) - start c.nets e

module _ (board : Board) (fit : Guided board) {w sn : List ℕ} {z : ℕ} (t : Thread board.mods.now board.nets.now board.mark.now w sn (length board.weight.now) z) where
  abbrev c : Card
  c = board_card board

  made : Made (board_card board) board.first.now board.mods.now board.weight.now
  made = card_made board.first.now board.mods.now board.weight.now board.mark.now fit.laid

  grid : Grid (board_card board) board.mods.now board.nets.now
  grid = grid_of (board_card board) board.first.now board.mods.now board.weight.now board.nets.now board.at.now board.pins.now (length board.mark.now) made (tables_of board)

  valid : Valid (board_card board)
  valid = card_valid board.first.now board.mods.now board.weight.now board.mark.now fit.laid

  thread_field : Field (board_card board) board.mods.now board.weight.now board.nets.now board.mark.now w
  thread_field = record {
    ground = record {
      grid = grid;
      trail = subst (Trail board.mods.now board.nets.now board.mark.now w) (sym made.nets) t.trail;
      valid = valid;
      modules = card_modules board.first.now board.mods.now board.weight.now board.mark.now fit.laid;
      mark = card_mark board.first.now board.mods.now board.weight.now board.mark.now fit.laid;
      weights = λ e l. let l' : e < length board.weight.now = omega (arith, made.nets) in omega (arith, heavy_of board e l', made.weight e l');
    };
    nets = made.nets;
    weight = made.weight;
  }

  -- the module of a pin, by the numbers of the card
  pin_module : (e a : ℕ) → a < length board.mods.now → get_or board.nets.now a 0 ≡ e → (a - start c.nets e < length (net_at c.nets e).pins) × (pin_of c e (a - start c.nets e) ≡ get_or board.mods.now a 0)
  pin_module e a l q =
      let s : start c.nets (get_or board.nets.now a 0) ≡ start c.nets e = ap (start c.nets) q in
      let k : length (net_at c.nets (get_or board.nets.now a 0)).pins ≡ length (net_at c.nets e).pins = ap (λ (n : ℕ). length (net_at c.nets n).pins) q in
      let low = grid.low a l in
      let high = grid.high a l in
      let i : a - start c.nets e < length (net_at c.nets e).pins = omega arith in
      let at : start c.nets e + (a - start c.nets e) ≡ a = omega arith in
      (i, pin_global c board.mods.now grid.pins e (a - start c.nets e) (omega (arith, grid.net a l, q)) i ∙ ap (λ (j : ℕ). get_or board.mods.now j 0) at)

  twig : (m : ℕ) → In w m → get_or board.mark.now m 0 ≢ 1 → Twig plainly c (rank_of w) (opener_of c w sn) (side_of w) m (up_of c board.nets.now w m)
  twig m i n =
      let x = get_or w m 0 in
      let e = get_or board.nets.now (left x) 0 in
      let k = t.trail.step m i n in
      let a = pin_module e (left x) k.in_left refl in
      let b = pin_module e (entered x) k.in_entered k.same in
      let to : pin_of c e (entered x - start c.nets e) ≡ m = b.1 ∙ t.to m i n in record {
        sound = record {
          net = grid.net (left x) k.in_left;
          a = a.0;
          b = b.0;
          moves = λ q. absurd (omega (arith, k.lower, ap (rank_of w) (sym a.1 ∙ q ∙ to)));
          sends = λ _. tt;
          takes = λ _. tt;
        };
        to = to;
        from = subst (λ (j : ℕ). T (side_of w j)) (sym a.1) (lt→ltb 0 (get_or w (get_or board.mods.now (left x) 0) 0) k.from);
        lower = subst (λ (j : ℕ). rank_of w j < rank x) (sym a.1) k.lower;
        opened = λ p q. opened (t.small m i n) (no_eqb (kind x) 1 p) (no_eqb (kind x) 2 q);
      }
    where
      opened : kind (get_or w m 0) ≤ 2 → kind (get_or w m 0) ≢ 1 → kind (get_or w m 0) ≢ 2 → left (get_or w m 0) - start c.nets (get_or board.nets.now (left (get_or w m 0)) 0) ≡ opener_of c w sn (get_or board.nets.now (left (get_or w m 0)) 0)
      opened l p q =
          let o = t.opens m i n (omega arith) in
          let one : m ≡ get_or sn (get_or board.nets.now (left (get_or w m 0)) 0) 0 - 1 = omega arith in
          ap (λ (j : ℕ). left (get_or w j 0) - start c.nets (get_or board.nets.now (left (get_or w m 0)) 0)) one

  tree : Tree plainly c (rank_of w) (opener_of c w sn) (up_of c board.nets.now w) (side_of w)
  tree m l s n = twig m (ltb→lt 0 (get_or w m 0) s) (λ e. n (card_mark board.first.now board.mods.now board.weight.now board.mark.now fit.laid m ∙ e))

  thread_route : get_or board.mark.now z 0 ≡ 2 → Route (board_card board) board.nets.now board.mark.now w z
  thread_route e =
      let low : z < c.modules = omega (arith, card_modules board.first.now board.mods.now board.weight.now board.mark.now fit.laid, tip_below t) in
      let in_side : T (side_of w z) = lt→ltb 0 (get_or w z 0) t.tip in record {
        from = t.tip;
        maker = card_mark board.first.now board.mods.now board.weight.now board.mark.now fit.laid z ∙ e;
        sound = walk_sound plainly c valid (rank_of w) (opener_of c w sn) (up_of c board.nets.now w) (side_of w) tree (suc (length board.mark.now)) z low in_side;
        apart = walk_pairwise plainly c valid (rank_of w) (opener_of c w sn) (up_of c board.nets.now w) (side_of w) tree (suc (length board.mark.now)) z low in_side;
        leads = walk_leads plainly c valid (rank_of w) (opener_of c w sn) (up_of c board.nets.now w) (side_of w) tree (suc (length board.mark.now)) z low in_side (omega (arith, t.trail.ranks z t.tip));
      }

  pub thread_level : (sm : List ℕ) (fl : List ℤ) → Steady (board_card board) board.mods.now sm fl → Level board.mods.now board.weight.now sm fl
  thread_level = level_of c board.mods.now board.weight.now board.nets.now board.mark.now w thread_field

  -- from a maker what the way carries can be pushed, and the flow stays fair
  module _ (sm : List ℕ) (fl : List ℤ) (s : Steady (board_card board) board.mods.now sm fl) (maker : get_or board.mark.now z 0 ≡ 2) where
    pub thread_carries : MayCarry board.mods.now board.weight.now board.nets.now board.mark.now w sm fl z
    thread_carries = (c, thread_field, thread_route maker, s)

    pub thread_carried : {sm' : List ℕ} {fl' : List ℤ} → Carried board.mods.now board.weight.now board.nets.now board.mark.now w sm fl z sm' fl' → Steady (board_card board) board.mods.now sm' fl'
    thread_carried k = (k c thread_field (thread_route maker) s).0.steady
