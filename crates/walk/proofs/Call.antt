-- The statement of the walk's call settles all that the call leaves: there is one such result (`walked_one`), and there always is one (`walked_some`). What it writes fits the lent buffers
-- (`rows_fit`, `side_fits`), which keep their lengths (`walked_lengths`). Assumes nothing.
use Rattle.book.specs.declared.Refusal.{Refusal}
use Rattle.std.specs.Prelude.{◌≡◌, ℕ, ◌+◌, ◌*◌, ◌<◌, ◌≤◌, Bool, true, false, not, ◌&&◌, T, ltb, List, [], ◌∷◌, ◌++◌, length, drop, Result, Ok, Err}
use mathlib.Core.Path.{refl, sym, ap, ◌∙◌}
use mathlib.Core.List.{append_assoc, append-nil}
use native.Mathlib.Omega.{arith}
use lib.Dec.{ltb→lt}
use lib.ListN.{length-append, length-drop}
use borrow.Author.Tests.{ltb-false}
use Rattle.line.specs.Card.{Side, Alike, whole_area}
use Rattle.line.proofs.Bools.{or_none}
use Rattle.book.specs.Listed.{listed}
use Rattle.book.specs.Format.{modules, area}
use Rattle.book.specs.Checks.{book_of, read_of}
use Rattle.book.specs.Cards.{card_of}
use Rattle.book.specs.Sound.{Sound}
use Rattle.book.specs.declared.Book.{Book}
use Rattle.book.specs.declared.Refusal.TheVariants as refusal
use Rattle.book.proofs.Sound.{sound}
use Rattle.book.proofs.CardLaws.{card_valid}
use Rattle.book.proofs.Elements.{length_listed}
use Rattle.gate.specs.Gates.{good_gate, gate_says}
use Rattle.gate.specs.declared.Gate.{Gate}
use Rattle.walk.specs.Walk.{Row, Outcome, found, none_left, answer}
use Rattle.walk.specs.Call.{little_endian, row_bytes, rows_bytes, binary, bytes_for, side_bytes, over, room_for, too_short, refuse_if, if_read, checked_of, Left, refused, side_after, written, BookWalks, Comes, Walked}
use Rattle.walk.proofs.Rounds.{walks_rounds}
use Rattle.walk.proofs.One.{SameOutcome, walks_one, answer_one}
use Rattle.walk.proofs.Plain.{walks_some}

-- ---- bytes

pub row-length : (r : Row) → length (row_bytes r) ≡ 12
unfolding row_bytes little_endian
row-length r = refl

pub rows_length : (rs : List Row) → length (rows_bytes rs) ≡ 12 * length rs
unfolding rows_bytes
rows_length [] = refl
rows_length (r ∷ rs) = omega (arith, length-append (row_bytes r) (rows_bytes rs), row-length r, rows_length rs)

-- one row more, as a loop goes
pub rows_more : (rs : List Row) (r : Row) → rows_bytes (rs ++ (r ∷ [])) ≡ rows_bytes rs ++ row_bytes r
unfolding rows_bytes
rows_more [] r = append-nil (row_bytes r)
rows_more (q ∷ rs) r = ap (λ (l : List ℕ). row_bytes q ++ l) (rows_more rs r) ∙ sym (append_assoc (row_bytes q) (rows_bytes rs) (row_bytes r))

-- the bytes of a side look at its modules alone
pub side_bytes_same : (x y : Side) (n : ℕ) → Alike n x y → side_bytes x n ≡ side_bytes y n
side_bytes_same x y n e = λ t. listed (λ i. binary (λ j. bit (8 * i + j) t) 8) (bytes_for n)
  where
    bit : (m : ℕ) → (ltb m n && x m) ≡ (ltb m n && y m)
    bit m = go (ltb m n) (ltb→lt m n)
      where
        go : (b : Bool) → (T b → m < n) → (b && x m) ≡ (b && y m)
        go true l = e m (l tt)
        go false l = refl

-- a buffer keeps its length
pub over-length : (new old : List ℕ) → length new ≤ length old → length (over new old) ≡ length old
over-length new old h = omega (arith, length-append new (drop (length new) old), length-drop (length new) old)

-- ---- what the checks tell

pub record Checked (s : List ℕ) (g : Gate) (side rows : List ℕ) : Type 0 where
  pub reads : Sound s
  pub good : good_gate g ≡ true
  pub side_room : bytes_for (modules s) ≤ length side
  pub rows_room : room_for s ≤ length rows

pub checked : (s : List ℕ) (g : Gate) (side rows : List ℕ) (b : Book) → checked_of s g side rows ≡ Ok b → Checked s g side rows
unfolding checked_of too_short
checked s g side rows b = by (read_of s) (good_gate g) (too_short s side rows) refl refl refl
  where
    by : (r : Result Book Refusal) (d t : Bool) → read_of s ≡ r → good_gate g ≡ d → too_short s side rows ≡ t →
        if_read r (refuse_if (not d) refusal.Gate (refuse_if t refusal.Buffer (Ok (book_of s)))) ≡ Ok b → Checked s g side rows
    by (Ok c) true false p q h e =
        let k = or_none (ltb (length side) (bytes_for (modules s))) (ltb (length rows) (room_for s)) h in
        record {
          reads = sound s c p;
          good = q;
          side_room = ltb-false (length side) (bytes_for (modules s)) k.0;
          rows_room = ltb-false (length rows) (room_for s) k.1;
        }
    by (Ok c) true true p q h e = let z : ◌≡◌ {A = ℕ} 0 1 = cc in absurd (omega arith)
    by (Ok c) false t p q h e = let z : ◌≡◌ {A = ℕ} 0 1 = cc in absurd (omega arith)
    by (Err r) d t p q h e = let z : ◌≡◌ {A = ℕ} 0 1 = cc in absurd (omega arith)

-- ---- what is written fits

module _ (s : List ℕ) (g : Gate) (side rows : List ℕ) (c : Checked s g side rows) where
  pub rows_fit : (rs : List Row) (o : Outcome) → BookWalks s g rs o → length (rows_bytes rs) ≤ length rows
  rows_fit rs o a = omega (arith, rows_length rs, walks_rounds (card_of s) (area s) (gate_says g (whole_area (card_of s) (area s))) a, c.rows_room)

  pub side_fits : (x : Side) → length (side_bytes x (modules s)) ≤ length side
  side_fits x = omega (arith, length_listed (λ i. binary (λ j. ltb (8 * i + j) (modules s) && x (8 * i + j)) 8) (bytes_for (modules s)), c.side_room)

-- ---- the result is one, and there is one

module _ (s : List ℕ) (g : Gate) (side rows : List ℕ) where
  side_same : (o p : Outcome) → SameOutcome (modules s) o p → side_after (modules s) o side ≡ side_after (modules s) p side
  side_same (found x) (found y) e = ap (λ (l : List ℕ). over l side) (side_bytes_same x y (modules s) e)
  side_same (found x) none_left e = absurd e
  side_same none_left (found y) e = absurd e
  side_same none_left none_left e = refl

  written_same : Sound s → (rs ss : List Row) (o p : Outcome) → BookWalks s g rs o → BookWalks s g ss p → written s rs o side rows ≡ written s ss p side rows
  written_same h rs ss o p a b =
      let v = gate_says g (whole_area (card_of s) (area s)) in
      let q = walks_one (card_of s) (card_valid s h) (area s) v a b in
      let u : answer (card_of s) rs o ≡ answer (card_of s) ss p = answer_one (card_of s) (card_valid s h) (area s) v a b in
      let d : side_after (modules s) o side ≡ side_after (modules s) p side = side_same o p q.1 in
      λ i. record { answer = u i; side = d i; rows = over (rows_bytes (q.0 i)) rows }

  pub walked_one : (a b : Left) → Walked s g side rows a → Walked s g side rows b → a ≡ b
  walked_one a b = by (checked_of s g side rows) refl
    where
      by : (r : Result Book Refusal) → checked_of s g side rows ≡ r → Comes r s g side rows a → Comes r s g side rows b → a ≡ b
      by (Err r) e h k = h ∙ sym k
      by (Ok c) e h k =
          h.left ∙ written_same (checked s g side rows c e).reads h.rounds k.rounds h.outcome k.outcome h.walks k.walks ∙ sym k.left

  pub walked_some : (a : Left) × Walked s g side rows a
  walked_some = by (checked_of s g side rows) refl
    where
      by : (r : Result Book Refusal) → checked_of s g side rows ≡ r → (a : Left) × Comes r s g side rows a
      by (Err r) e = (refused r side rows, refl)
      by (Ok c) e =
          let w = walks_some (card_of s) (card_valid s (checked s g side rows c e).reads) (area s) (gate_says g (whole_area (card_of s) (area s))) in
          (written s w.0 w.1 side rows, record { rounds = w.0; outcome = w.1; walks = w.2; left = refl })

  -- each lent buffer keeps its length; with 14 the side is what it was
  lengths : Checked s g side rows → (rs : List Row) (o : Outcome) → BookWalks s g rs o → (length (side_after (modules s) o side) ≡ length side) × (length (over (rows_bytes rs) rows) ≡ length rows)
  lengths c rs (found x) a =
      (over-length (side_bytes x (modules s)) side (side_fits s g side rows c x), over-length (rows_bytes rs) rows (rows_fit s g side rows c rs (found x) a))
  lengths c rs none_left a = (refl, over-length (rows_bytes rs) rows (rows_fit s g side rows c rs none_left a))

  pub walked_lengths : (a : Left) → Walked s g side rows a → (length a.side ≡ length side) × (length a.rows ≡ length rows)
  walked_lengths a = by (checked_of s g side rows) refl
    where
      by : (r : Result Book Refusal) → checked_of s g side rows ≡ r → Comes r s g side rows a → (length a.side ≡ length side) × (length a.rows ≡ length rows)
      by (Err r) e h = rw h (refl, refl)
      by (Ok c) e h = rw h.left (lengths (checked s g side rows c e) h.rounds h.outcome h.walks)
