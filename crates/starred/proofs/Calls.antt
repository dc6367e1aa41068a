-- What each call tells on a book, by plain trial (`trial`). It is so by the call's statement, whatever the book (`trial_tells`), and on small books it computes. Assumes nothing.
use Rattle.std.specs.Prelude.{Result, Ok, Err}
use mathlib.Core.Path.{◌≡◌, refl, sym, ap, ◌∙◌}
use mathlib.Core.Bool.{Bool, true, false, not, true≢false}
use mathlib.Core.List.{List, [], map}
use Prim.Native.Nat.{ℕ, suc}
use native.Mathlib.Omega.{arith}
use lib.Dec.{T}
use Rattle.line.specs.Card as card
use Rattle.line.specs.Card.{whole_area}
use Rattle.line.proofs.Bools.{T_false}
use Rattle.line.proofs.Below.{price_alike, near_alike, far_alike}
use Rattle.line.proofs.Cheap.{near_one, far_one}
use Rattle.line.proofs.Duality.{Valid}
use Rattle.line.proofs.Trial.{near_in, far_in, near_tried, far_tried}
use Rattle.book.specs.Answer.{number_of, place_of}
use Rattle.book.specs.Answer as reader
use Rattle.book.specs.Format.{modules, area, mark}
use Rattle.book.specs.Checks.{book_of, read_of}
use Rattle.book.specs.Cards.{card_of, nets_of}
use Rattle.book.specs.declared.Book.{Book}
use Rattle.book.specs.declared.Refusal.{Refusal}
use Rattle.book.specs.declared.Refusal.TheVariants as refusal
use Rattle.book.proofs.CardLaws.{card_valid}
use Rattle.book.proofs.Sound.{sound}
use Rattle.side.specs.Sides.{side_of, Bytes}
use Rattle.side.specs.Prices as prices
use Rattle.side.specs.Moves as moves
use Rattle.audit.specs.Checker as checker
use Rattle.split.specs.Splits as splits
use Rattle.split.specs.Splits.{Buffers, Split}
use Rattle.split.specs.Verdicts as verdicts
use Rattle.split.proofs.Answers.{split_tells, split_prices, refuses_split}
use Rattle.split.proofs.Held.{room_of}
use Rattle.split.proofs.Least.{near_price}
use Rattle.gate.specs.Gates.{good_gate, gate_says}
use Rattle.gate.specs.declared.Gate.{Gate}
use Rattle.gate.specs.declared.Verdict.{Verdict}
use Rattle.walk.specs.declared.Row.{Row}
use Rattle.walk.specs.Walk.{Outcome, found, none_left, free_to, answer}
use Rattle.walk.specs.Call as walks
use Rattle.walk.specs.Call.{Walked, Comes, checked_of, written, side_bytes, rows_bytes}
use Rattle.walk.proofs.Call.{walked_one}
use Rattle.walk.proofs.Plain.{run, run_walks}
use Rattle.starred.specs.Cases.{numbers_in, Call, read, price, move, check, split, walk, Parts, Rounds, Told, refused, parts, Leaves, Drawn, SplitTells, WalkTells, leaves, Tells}
use Rattle.starred.proofs.Bytes.{bytes_side, row_over}

-- ---- the split

-- 0 is no refusal's number
no_zero : (why : Refusal) → number_of why ≡ 0 → ⊥
no_zero refusal.Layout z = omega arith
no_zero refusal.Counts z = omega arith
no_zero (refusal.Module m) z = omega arith
no_zero (refusal.Net n) z = omega arith
no_zero (refusal.Pin p) z = omega arith
no_zero refusal.Marks z = omega arith
no_zero refusal.Gate z = omega arith
no_zero refusal.Buffer z = omega arith
no_zero refusal.Side z = omega arith
no_zero refusal.Move z = omega arith
no_zero (refusal.NetRule n) z = omega arith
no_zero (refusal.ModuleRule m) z = omega arith
no_zero refusal.Values z = omega arith
no_zero refusal.Stuck z = omega arith

-- both sides by trial, or the reader's refusal
abbrev parts_by : Result Book Refusal → List ℕ → Parts
parts_by (Ok b) s = parts (card.price (nets_of s) (near_in (card_of s))) (side_bytes (near_in (card_of s)) (modules s)) (side_bytes (far_in (card_of s)) (modules s))
parts_by (Err why) s = refused split (number_of why) (place_of why)

module _ (s : List ℕ) where
  module _ (b : Book) (e : read_of s ≡ Ok b) where
    valid : Valid (card_of s)
    valid = card_valid s (sound s b e)

    -- by the page of meanings
    drawn : Drawn s (parts_by (Ok b) s)
    drawn =
        let x = near_in (card_of s) in
        let y = far_in (card_of s) in
        let m = modules s in
        record {
          near_side = near_alike (card_of s) valid x (side_of (side_bytes x m)) (λ k l. sym (bytes_side x m k l)) (near_tried (card_of s) valid);
          far_side = far_alike (card_of s) valid y (side_of (side_bytes y m)) (λ k l. sym (bytes_side y m k l)) (far_tried (card_of s) valid);
          price_is = price_alike (card_of s) valid (side_of (side_bytes x m)) x (bytes_side x m);
        }

    -- by the split's statement
    good_leaves : (old new : Buffers) (r : Result ℕ Refusal) → T (not (splits.too_short s old)) → Bytes new.near → Bytes new.far → Split s old r new → Leaves (parts_by (Ok b) s) old r new
    good_leaves old new r t a d k =
        let room = room_of s old (sound s b e) (T_false _ t) in
        let p = split_prices s old new r (b, e) room k in
        let k' : Split s old (Ok p.at_price) new = rw p.answer at k in
        let h = (split_tells s old new p.at_price k').holds.solved in
        let near = near_one (card_of s) (side_of new.near) (near_in (card_of s)) h.near_side (near_tried (card_of s) valid) in
        let far = far_one (card_of s) (side_of new.far) (far_in (card_of s)) h.far_side (far_tried (card_of s) valid) in
        let q : p.at_price ≡ card.price (nets_of s) (near_in (card_of s)) = sym (near_price s old new p.at_price k') ∙ price_alike (card_of s) valid (side_of new.near) (near_in (card_of s)) near in
        record {
          numbers = ap splits.numbers_of (p.answer ∙ ap Ok q);
          near = row_over (modules s) old.near new.near (near_in (card_of s)) a room.for_near h.near_row near;
          far = row_over (modules s) old.far new.far (far_in (card_of s)) d room.for_far h.far_row far;
        }

  refused_leaves : (why : Refusal) → read_of s ≡ Err why → (old new : Buffers) (r : Result ℕ Refusal) → Split s old r new → Leaves (parts_by (Err why) s) old r new
  refused_leaves why e old new r k =
      let h = refuses_split s old new r (verdicts.reader e) k in
      record { numbers = ap splits.numbers_of h.refused; near = ap (λ (b : Buffers). b.near) h.kept; far = ap (λ (b : Buffers). b.far) h.kept }

  split_tried : SplitTells s (parts_by (read_of s) s)
  split_tried = go (read_of s) refl
    where
      go : (r : Result Book Refusal) → read_of s ≡ r → SplitTells s (parts_by r s)
      go (Ok b) e = record { every = good_leaves b e; page = λ z. drawn b e }
      go (Err why) e = record { every = λ old new r t a d. refused_leaves why e old new r; page = λ z. absurd (no_zero why z) }

-- ---- the walk

-- the bytes of the side found; with 14 none
abbrev side_in : ℕ → Outcome → List ℕ
side_in n (found x) = side_bytes x n
side_in n none_left = []

-- what the rows and the outcome of a walk tell
abbrev ran : List ℕ → List Row × Outcome → Rounds
ran s p = record { numbers = answer (card_of s) p.0 p.1; rows = map numbers_in p.0; side = side_in (modules s) p.1 }

-- what the gate says of an area
abbrev said : List ℕ → Gate → ℕ → Verdict
said s g = gate_says g (whole_area (card_of s) (area s))

abbrev run_of : List ℕ → Gate → List Row × Outcome
run_of s g = run (card_of s) (area s) (said s g) (suc (free_to (mark s) (modules s))) (mark s)

-- the walk by trial, or the refusal of the reader or of the gate
abbrev rounds_by : Result Book Refusal → Bool → List ℕ → Gate → Rounds
rounds_by (Ok b) true s g = ran s (run_of s g)
rounds_by (Ok b) false s g = refused (walk g) (number_of refusal.Gate) (place_of refusal.Gate)
rounds_by (Err why) good s g = refused (walk g) (number_of why) (place_of why)

-- the rounds of that walk; of a refusal, none
abbrev walked_by : Result Book Refusal → Bool → List ℕ → Gate → List Row
walked_by (Ok b) true s g = (run_of s g).0
walked_by (Ok b) false s g = []
walked_by (Err why) good s g = []

module _ (s : List ℕ) (g : Gate) (side rows : List ℕ) (t : T (not (walks.too_short s side rows))) where
  ran_leaves : (rs : List Row) (o : Outcome) → written s rs o side rows ≡ leaves (ran s (rs, o)) rs side rows
  ran_leaves rs (found x) = refl
  ran_leaves rs none_left = refl

  walk_allows : Walked s g side rows (leaves (rounds_by (read_of s) (good_gate g) s g) (walked_by (read_of s) (good_gate g) s g) side rows)
  unfolding checked_of rows_bytes
  walk_allows = go (read_of s) (good_gate g) (walks.too_short s side rows) refl (T_false _ t)
    where
      go : (r : Result Book Refusal) (d w : Bool) → read_of s ≡ r → w ≡ false →
          Comes (walks.if_read r (walks.refuse_if (not d) refusal.Gate (walks.refuse_if w refusal.Buffer (Ok (book_of s))))) s g side rows (leaves (rounds_by r d s g) (walked_by r d s g) side rows)
      go (Ok b) true false e u = record {
        rounds = (run_of s g).0;
        outcome = (run_of s g).1;
        walks = run_walks (card_of s) (area s) (said s g) (suc (free_to (mark s) (modules s))) (mark s) (card_valid s (sound s b e)) (omega arith);
        left = sym (ran_leaves (run_of s g).0 (run_of s g).1);
      }
      go (Ok b) true true e u = absurd (true≢false u)
      go (Ok b) false w e u = refl
      go (Err why) d w e u = refl

walk_tried : (s : List ℕ) (g : Gate) → WalkTells s g (rounds_by (read_of s) (good_gate g) s g)
walk_tried s g =
    let rounds = walked_by (read_of s) (good_gate g) s g in
    let left = leaves (rounds_by (read_of s) (good_gate g) s g) rounds in
    record {
      rounds = rounds;
      told = numbered (read_of s) (good_gate g);
      every = λ side rows a t. (λ h. walked_one s g side rows a (left side rows) h (walk_allows s g side rows t), λ h. rw h (walk_allows s g side rows t));
    }
  where
    numbered : (r : Result Book Refusal) (d : Bool) → map numbers_in (walked_by r d s g) ≡ (rounds_by r d s g).rows
    numbered (Ok b) true = refl
    numbered (Ok b) false = refl
    numbered (Err why) d = refl

-- ---- every call

abbrev pub trial : List ℕ → (k : Call) → Told k
trial s read = reader.numbers_of (read_of s)
trial s (price l) = prices.numbers_of (prices.priced s l)
trial s (move l m) = moves.numbers_of (moves.changed s l m)
trial s (check l xs p) = checker.numbers_of (checker.checked_of s l xs p)
trial s split = parts_by (read_of s) s
trial s (walk g) = rounds_by (read_of s) (good_gate g) s g

pub trial_tells : (s : List ℕ) (k : Call) → Tells s k (trial s k)
trial_tells s read = refl
trial_tells s (price l) = refl
trial_tells s (move l m) = refl
trial_tells s (check l xs p) = refl
trial_tells s split = split_tried s
trial_tells s (walk g) = walk_tried s g
