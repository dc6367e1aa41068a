-- What a board holds, for the laws of the search: its tables out of the truncation, since a pin's place can be looked for. Assumes nothing.
use mathlib.Core.Path.{◌≡◌, sym, ap, ◌∙◌, subst}
use mathlib.Core.Logic.{◌⊎◌, inl, inr, ⊎_elim}
use mathlib.Core.List.{List}
use Prim.Native.Nat.{ℕ, zero, suc, ◌+◌, ◌-◌, ◌≤◌, ◌<◌}
use native.Mathlib.Decide.{ℕ_discrete}
use native.Mathlib.Omega.{arith}
use lib.ListN.{length, get_or, take, drop}
use lib.Seq.{get_or-take, get_or-drop}
use lib.IntN.{ℤ}
use Rattle.std.proofs.Math.Logic.{∥∥₁_elim}
use Rattle.std.proofs.Props.{props}
use Rattle.flow.specs.declared.board.Board.{Board}
use Rattle.flow.specs.Search.{Pin, Tables, Fitted, Visit, Whole}
use Rattle.flow.proofs.Pins.{split}

-- the place of pin a in a run of the list
abbrev Place : List ℕ → ℕ → ℕ → ℕ → Type 0
Place pl a lo hi = (k : ℕ) × Pin lo hi k × (get_or pl k 0 ≡ a)

look : (pl : List ℕ) (a lo n : ℕ) → Place pl a lo n ⊎ (Place pl a lo n → ⊥)
look pl a lo zero = inr (λ f. let h = f.1.high in absurd (omega arith))
look pl a lo (suc n) = ⊎_elim
    (λ f. inl (f.0, record { low = f.1.low; high = let h = f.1.high in omega arith }, f.2))
    (λ none. here none (ℕ_discrete (get_or pl n 0) a) (split n lo))
    (look pl a lo n)
  where
    later : (Place pl a lo n → ⊥) → (Pin lo (suc n) n → get_or pl n 0 ≡ a → ⊥) → Place pl a lo (suc n) → ⊥
    later none not f = go (ℕ_discrete f.0 n)
      where
        go : Dec (f.0 ≡ n) → ⊥
        go (yes e) = not (subst (λ (i : ℕ). Pin lo (suc n) i) e f.1) (subst (λ (i : ℕ). get_or pl i 0 ≡ a) e f.2)
        go (no ne) = none (f.0, record { low = f.1.low; high = let h = f.1.high in omega arith }, f.2)

    here : (Place pl a lo n → ⊥) → Dec (get_or pl n 0 ≡ a) → (n < lo) ⊎ (lo ≤ n) → Place pl a lo (suc n) ⊎ (Place pl a lo (suc n) → ⊥)
    here none (yes e) s = ⊎_elim (λ l. inr (later none (λ p q. let g = p.low in absurd (omega arith)))) (λ l. inl (n, record { low = l; high = omega arith }, e)) s
    here none (no ne) s = inr (later none (λ p q. ne q))

found : (pl : List ℕ) (a lo hi : ℕ) → ((Place pl a lo hi → ⊥) → ⊥) → Place pl a lo hi
found pl a lo hi h = ⊎_elim (λ f. f) (λ none. absurd (h none)) (look pl a lo hi)

pub tables_of : (b : Board) → Tables b.first.now b.mods.now b.weight.now b.nets.now b.at.now b.pins.now (length b.mark.now)
tables_of b = record {
  counts = ∥∥₁_elim b.tables (Prim.hlevel props) (λ t. t.counts);
  net = ∥∥₁_elim b.tables (Prim.hlevel props) (λ t. t.net);
  inside = ∥∥₁_elim b.tables (Prim.hlevel props) (λ t. t.inside);
  starts = ∥∥₁_elim b.tables (Prim.hlevel props) (λ t. t.starts);
  rises = ∥∥₁_elim b.tables (Prim.hlevel props) (λ t. t.rises);
  ends = ∥∥₁_elim b.tables (Prim.hlevel props) (λ t. t.ends);
  own = ∥∥₁_elim b.tables (Prim.hlevel props) (λ t. t.own);
  all = λ a l. found _ a _ _ (λ none. ∥∥₁_elim b.tables (Prim.hlevel props) (λ t. none (t.all a l)));
}

pub whole : (b : Board) {sm : List ℕ} {fl : List ℤ} → Fitted b.mods.now b.weight.now sm fl → Whole b.first.now b.mods.now b.weight.now b.nets.now b.at.now b.pins.now sm fl (length b.mark.now)
whole b f = record { tables = tables_of b; firsts = b.firsts; below = b.below; flows = f.flows; sums = f.sums; few = b.few }

pub visit_at : (b : Board) {sm : List ℕ} {fl : List ℤ} (a : ℕ) → Fitted b.mods.now b.weight.now sm fl → a < length b.mods.now → Visit b.first.now b.mods.now b.weight.now b.nets.now sm fl a
visit_at b a f l =
    let t = tables_of b in
    let q = t.net a l in record {
      pin = l;
      nts = t.counts;
      flows = f.flows;
      few = b.few;
      firsts = b.firsts;
      sums = f.sums;
      net = q.0;
      on = q.1;
      ends = t.inside _ q.0;
    }

pub heavy_of : (b : Board) (n : ℕ) → n < length b.weight.now → get_or b.weight.now n 0 ≤ 65535
heavy_of b n l = omega (arith, b.light n)

-- a module's own pins, as a slice of the pins module by module
pub record Own (b : Board) (u k a : ℕ) : Type 0 where
  pub at : a ≡ get_or b.pins.now k 0
  pub pin : a < length b.mods.now
  pub mine : get_or b.mods.now (get_or b.pins.now k 0) 0 ≡ u

pub own_at : (b : Board) (u i : ℕ) {lo hi : ℕ} → u < length b.mark.now → lo ≡ get_or b.at.now u 0 → hi ≡ get_or b.at.now (u + 1) 0 → i < hi - lo →
    Own b u (get_or b.at.now u 0 + i) (get_or (take (hi - lo) (drop lo b.pins.now)) i 0)
own_at b u i {lo} {hi} l el eh li =
    let t = tables_of b in
    let o = t.own u (get_or b.at.now u 0 + i) l (record { low = omega arith; high = omega arith }) in
    let e : get_or (take (hi - lo) (drop lo b.pins.now)) i 0 ≡ get_or b.pins.now (get_or b.at.now u 0 + i) 0 = get_or-take (hi - lo) (drop lo b.pins.now) i 0 li ∙ get_or-drop lo b.pins.now i 0 ∙ ap (λ (k : ℕ). get_or b.pins.now (k + i) 0) el in
    record { at = e; pin = subst (λ (a : ℕ). a < length b.mods.now) (sym e) o.0; mine = o.1 }
