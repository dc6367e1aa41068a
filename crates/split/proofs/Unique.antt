-- Any two results that the split's contract allows are one but for the flow's numbers: those may differ, at one value. Assumes nothing.
use Rattle.book.specs.declared.Refusal.{Refusal}
use Rattle.std.specs.Prelude.{◌≡◌, ℕ, ◌<◌, List, ◌++◌, length, get_or, take, drop, ℤ, pos, Result, Ok, Err}
use mathlib.Core.Path.{refl, sym, ap, ◌∙◌}
use lib.Seq.{length-take-le}
use Rattle.line.specs.Card.{price}
use Rattle.line.specs.Flow.{Fair, value}
use Rattle.line.proofs.Cheap.{near_one, far_one}
use Rattle.book.specs.Format.{modules, pins}
use Rattle.book.specs.Cards.{card_of, nets_of}
use Rattle.side.specs.Sides.{side_of, Bytes}
use Rattle.flow.specs.Cards.{Small}
use Rattle.split.specs.Solved.{Solved}
use Rattle.split.specs.Splits.{Buffers, buffers, Split}
use Rattle.split.proofs.Held.{holds_of}
use Rattle.split.proofs.SameRows.{row_one}
use Rattle.split.proofs.Answers.{split_tells, told_split, split_refused, refuses_split, split_prices}
use Rattle.split.proofs.Least.{flow_value}

-- one answer, one near side and one far side with their tails, and flows of one length, one tail and one value
pub record One (s : List ℕ) (r q : Result ℕ Refusal) (new fresh : Buffers) : Type 0 where
  pub answer : r ≡ q
  pub near : new.near ≡ fresh.near
  pub far : new.far ≡ fresh.far
  pub long : length new.flow ≡ length fresh.flow
  pub tail : drop (pins s) new.flow ≡ drop (pins s) fresh.flow
  pub value_is : value (card_of s) (take (pins s) new.flow) ≡ value (card_of s) (take (pins s) fresh.flow)

module _ (s : List ℕ) (old new fresh : Buffers) where
  -- where both are prices
  prices_one : (p n : ℕ) → Split s old (Ok p) new → Split s old (Ok n) fresh →
      Bytes new.near → Bytes new.far → Bytes fresh.near → Bytes fresh.far → One s (Ok p) (Ok n) new fresh
  prices_one p n k l a b c d =
      let t = (split_tells s old new p k).holds in
      let u = (split_tells s old fresh n l).holds in
      let x = row_one (modules s) old.near new.near fresh.near t.solved.near_row u.solved.near_row a c
      (near_one (card_of s) (side_of new.near) (side_of fresh.near) t.solved.near_side u.solved.near_side) in
      let y = row_one (modules s) old.far new.far fresh.far t.solved.far_row u.solved.far_row b d
      (far_one (card_of s) (side_of new.far) (side_of fresh.far) t.solved.far_side u.solved.far_side) in
      let e : p ≡ n = t.price_is ∙ ap (λ (z : List ℕ). price (nets_of s) (side_of z)) x ∙ sym u.price_is in
      record {
        answer = ap Ok e;
        near = x;
        far = y;
        long = t.long ∙ sym u.long;
        tail = t.tail ∙ sym u.tail;
        value_is = flow_value s old new p k ∙ ap pos e ∙ sym (flow_value s old fresh n l);
      }

  -- where nothing was written
  kept_one : (r q : Result ℕ Refusal) → r ≡ q → new ≡ fresh → One s r q new fresh
  kept_one r q a e = record {
    answer = a;
    near = ap (λ (b : Buffers). b.near) e;
    far = ap (λ (b : Buffers). b.far) e;
    long = ap (λ (b : Buffers). length b.flow) e;
    tail = ap (λ (b : Buffers). drop (pins s) b.flow) e;
    value_is = ap (λ (b : Buffers). value (card_of s) (take (pins s) b.flow)) e;
  }

  pub split_one : (r q : Result ℕ Refusal) → Split s old r new → Split s old q fresh →
      Bytes new.near → Bytes new.far → Bytes fresh.near → Bytes fresh.far → One s r q new fresh
  split_one (Ok p) q k l a b c d =
      let t = split_tells s old new p k in
      let u = split_prices s old fresh q t.reads t.room l in
      rw u.answer (prices_one p u.at_price k (rw u.answer at l) a b c d)
  split_one (Err why) q k l a b c d =
      let h = split_refused s old new why k in
      let t = refuses_split s old new (Err why) h k in
      let u = refuses_split s old fresh q h l in
      kept_one (Err why) q (t.refused ∙ sym u.refused) (t.kept ∙ sym u.kept)

-- ---- and no more can be said of the flow: in its place may stand any fair flow of that value, within a weight at each pin

pub flow_other : (s : List ℕ) (old new : Buffers) (p : ℕ) (zs : List ℤ) → Split s old (Ok p) new →
    length zs ≡ pins s → Fair (card_of s) zs → value (card_of s) zs ≡ pos p → ((i : ℕ) → i < length zs → Small (get_or zs i (pos 0))) → Split s old (Ok p) (buffers new.near new.far (zs ++ drop (pins s) old.flow))
flow_other s old new p zs k n f v small =
    let t = split_tells s old new p k in
    let h = t.holds in
    let room = t.room in
    let solved : Solved (card_of s) old.near old.far new.near new.far zs = record {
      near_row = h.solved.near_row;
      far_row = h.solved.far_row;
      near_side = h.solved.near_side;
      far_side = h.solved.far_side;
      fair = f;
      value = v ∙ ap pos h.price_is;
      small = small;
    } in
    let long : length zs ≡ length (take (pins s) old.flow) = n ∙ sym (length-take-le (pins s) old.flow room.for_flow) in
    told_split s old (buffers new.near new.far (zs ++ drop (pins s) old.flow)) p (record {
      reads = t.reads;
      sound = t.sound;
      room = room;
      holds = holds_of s old.near old.far new.near new.far old.flow zs p (pins s) refl room.for_flow long solved h.price_is;
    })
