-- The rounds of the walk as the code's loop goes: it stands at its marks with its rows written (`going_start`, `going_again`), each round has room for its row and leaves fewer modules free
-- (`going_room`, `going_less`), and the last one makes a walk of the book (`going_ended`). Assumes nothing.
use Rattle.std.specs.Prelude.{◌≡◌, ℕ, zero, suc, ◌+◌, ◌*◌, ◌<◌, ◌≤◌, true, List, [], ◌∷◌, ◌++◌, length, get_or}
use mathlib.Core.Logic.{◌⊎◌, ⊎_elim}
use mathlib.Core.Path.{refl, sym, ap, ap₂, ◌∙◌, subst}
use native.Mathlib.Nat.{le_refl}
use native.Mathlib.Omega.{arith}
use lib.ListN.{length-append}
use lib.Seq.{length-paste}
use Rattle.line.specs.Card.{Alike, area_to, price}
use Rattle.line.proofs.Area.{area_to_most}
use Rattle.book.specs.Checks.{most_modules}
use Rattle.book.specs.Format.{modules, area, mark}
use Rattle.book.specs.Listed.{listed}
use Rattle.book.specs.Sound.{Sound}
use Rattle.book.specs.Cards.{card_of, nets_of}
use Rattle.book.proofs.CardLaws.{card_valid}
use Rattle.book.proofs.Elements.{length_listed, get_or_listed}
use Rattle.book.proofs.Pasted.{paste_then, paste_front}
use Rattle.side.specs.Sides.{side_of, SpareClear}
use Rattle.gate.specs.Gates.{band_says}
use Rattle.gate.specs.declared.Band.{Band}
use Rattle.gate.specs.declared.Verdict.{Verdict}
use Rattle.walk.specs.declared.Standing.{Standing}
use Rattle.walk.specs.Walk.{Way, Turn, Stops, Takes, Ends, Row, Walks, free_to, free}
use Rattle.walk.specs.Call.{row_bytes, rows_bytes, over, room_for}
use Rattle.walk.specs.Parts.{marks_of, over_at}
use Rattle.walk.specs.Work.{Marked, Says, OneRound}
use Rattle.walk.specs.Runs.{outcome_at, outcome_of, Ran}
use Rattle.walk.proofs.Rounds.{free_to_same}
use Rattle.walk.proofs.Loop.{Stands, start, walks_marks, round_stops, round_ends, round_goes, round_measure, stands_room}
use Rattle.walk.proofs.Call.{rows_length, rows_more, row-length}

ones : (n : ℕ) → area_to (λ m. 1) (λ m. true) n ≡ n
unfolding area_to
ones zero = refl
ones (suc n) = omega (arith, ones n)

-- the rows so far and one more
row_after : (rs : List Row) (r : Row) (old : List ℕ) → 12 * length rs + 12 ≤ length old → over_at (12 * length rs) (row_bytes r) (over (rows_bytes rs) old) ≡ over (rows_bytes (rs ++ (r ∷ []))) old
row_after rs r old h =
    let e : 0 + length (rows_bytes rs) ≡ 12 * length rs = omega (arith, rows_length rs) in
    ap₂ (λ (n : ℕ) (l : List ℕ). over_at n (row_bytes r) l) (sym e) (sym (paste_front (rows_bytes rs) old))
    ∙ paste_then 0 (rows_bytes rs) (row_bytes r) old (omega (arith, rows_length rs)) ∙ paste_front (rows_bytes rs ++ row_bytes r) old ∙ ap (λ (l : List ℕ). over l old) (sym (rows_more rs r))

-- the loaded marks are the book's
pub loaded_alike : (s k : List ℕ) → k ≡ listed (mark s) (modules s) → Alike (modules s) (marks_of k) (mark s)
loaded_alike s k e m l = ap (λ (k : List ℕ). get_or k m 0) e ∙ get_or_listed (mark s) (modules s) m 0 l

pub loaded_marked : (s k : List ℕ) → Sound s → k ≡ listed (mark s) (modules s) → Marked s k
loaded_marked s k h e = record { long = ap length e ∙ length_listed (mark s) (modules s); low = λ m l. subst (λ (n : ℕ). n ≤ 2) (sym (loaded_alike s k e m l)) (h.mark_low m l) }

-- the walk stands at the marks k after n rounds, and its rows are written
pub record GoesOn (s : List ℕ) (v : ℕ → Verdict) (k₀ k : List ℕ) (n : ℕ) (old new : List ℕ) : Type 0 where
  pub rounds : List Row
  pub stands : Stands (card_of s) (area s) v (marks_of k₀) rounds (marks_of k)
  pub count : n ≡ length rounds
  pub bytes : new ≡ over (rows_bytes rounds) old

pub record Going (s : List ℕ) (b : Band) (k₀ k : List ℕ) (n : ℕ) (old new : List ℕ) : Type 0 where
  pub begins : k₀ ≡ listed (mark s) (modules s)
  pub marked : Marked s k
  pub long : length new ≡ length old
  pub goes : (v : ℕ → Verdict) → Says b v → GoesOn s v k₀ k n old new

module _ {s : List ℕ} (sound : Sound s) {b : Band} {k₀ old : List ℕ} where
  pub going_start : {n : ℕ} → n ≡ 0 → k₀ ≡ listed (mark s) (modules s) → Going s b k₀ k₀ n old old
  unfolding rows_bytes
  going_start z e = record { begins = e; marked = loaded_marked s k₀ sound e; long = refl; goes = λ v h. record { rounds = []; stands = start; count = z; bytes = refl } }

  module _ {k : List ℕ} {n : ℕ} {new : List ℕ} (g : Going s b k₀ k n old new) where
    plain : GoesOn s (band_says b) k₀ k n old new
    plain = g.goes (band_says b) (λ a l. refl)

    spent : n + free_to (marks_of k) (modules s) ≤ free_to (mark s) (modules s)
    spent = omega (arith, stands_room (card_of s) (area s) (band_says b) (marks_of k₀) plain.rounds (marks_of k) plain.stands, plain.count, free_to_same (marks_of k₀) (mark s) (modules s) (loaded_alike s k₀ g.begins))

    -- there is room for one more row
    pub going_room : room_for s ≤ length old → 12 * n + 12 ≤ length new
    going_room h = omega (arith, spent, g.long)

    pub going_few : n ≤ most_modules
    going_few = omega (arith, spent, area_to_most (λ m. 1) (free (mark s)) (modules s), ones (modules s), sound.few_modules)

    module _ {x : List ℕ} {r : Row} {l : List ℕ} (o : OneRound s b k x r l) (room : room_for s ≤ length old) {new' : List ℕ} (put : new' ≡ over_at (12 * n) (row_bytes r) new) where
      -- with its row written
      bytes : (v : ℕ → Verdict) (h : Says b v) → new' ≡ over (rows_bytes ((g.goes v h).rounds ++ (r ∷ []))) old
      bytes v h =
          let q = g.goes v h in
          put ∙ ap₂ (λ (i : ℕ) (l : List ℕ). over_at (12 * i) (row_bytes r) l) q.count q.bytes ∙ row_after q.rounds r old (omega (arith, going_room room, q.count, g.long))

      pub going_again : {i : ℕ} → i ≡ n + 1 → (w : Way) (m : ℕ) → r.turn ≡ Takes w m → Going s b k₀ l i old new'
      going_again e w m z = record {
        begins = g.begins;
        marked = o.marked;
        long = ap length put ∙ length-paste new (12 * n) (row_bytes r) (length (row_bytes r)) (omega (arith, going_room room, row-length r)) (le_refl (length (row_bytes r))) ∙ g.long;
        goes = λ v h. let q = g.goes v h in record {
          rounds = q.rounds ++ (r ∷ []);
          stands = round_goes (card_of s) (card_valid s sound) (area s) v (marks_of k₀) q.rounds (marks_of k) q.stands (side_of x) r (marks_of l) (o.round v h) w m z;
          count = omega (arith, e, q.count, length-append q.rounds (r ∷ []));
          bytes = bytes v h;
        };
      }

      pub going_less : (w : Way) (m : ℕ) → r.turn ≡ Takes w m → free_to (marks_of l) (modules s) < free_to (marks_of k) (modules s)
      going_less w m z =
          round_measure (card_of s) (card_valid s sound) (area s) (band_says b) (marks_of k₀) plain.rounds (marks_of k) plain.stands (side_of x) r (marks_of l) (o.round (band_says b) (λ a l. refl)) w m z

      ended : (w : Standing) → w.row ≡ r → w.x ≡ x → w.rounds ≡ n + 1 →
          ((v : ℕ → Verdict) (h : Says b v) → Walks (card_of s) (area s) v (marks_of k₀) ((g.goes v h).rounds ++ (r ∷ [])) (outcome_of w)) → Ran s b old new' w
      ended w e f i a v h = record {
        rounds = (g.goes v h).rounds ++ (r ∷ []);
        walks = walks_marks (card_of s) (card_valid s sound) (area s) v (a v h) (mark s) (loaded_alike s k₀ g.begins);
        bytes = bytes v h;
        count = omega (arith, i, (g.goes v h).count, length-append (g.goes v h).rounds (r ∷ []));
        price = ap (λ (r : Row). r.price) (e ∙ (o.round v h).written) ∙ ap (λ (x : List ℕ). price (nets_of s) (side_of x)) (sym f);
        spare = subst (λ (x : List ℕ). SpareClear x (modules s)) (sym f) o.spare;
      }

      -- it stopped, or it ended with 14
      pub going_ended : (w : Standing) → w.row ≡ r → w.x ≡ x → w.rounds ≡ n + 1 → (r.turn ≡ Stops) ⊎ (r.turn ≡ Ends) → Ran s b old new' w
      going_ended w e f i d = ended w e f i (λ v h. ⊎_elim (stops v h) (ends v h) d)
        where
          comes : (t : Turn) → r.turn ≡ t → outcome_of w ≡ outcome_at t (side_of x)
          comes t z = ap₂ (λ (t : Turn) (x : List ℕ). outcome_at t (side_of x)) (ap (λ (r : Row). r.turn) e ∙ z) f

          stops : (v : ℕ → Verdict) (h : Says b v) → r.turn ≡ Stops → Walks (card_of s) (area s) v (marks_of k₀) ((g.goes v h).rounds ++ (r ∷ [])) (outcome_of w)
          stops v h z =
              let q = g.goes v h in
              subst (Walks (card_of s) (area s) v (marks_of k₀) (q.rounds ++ (r ∷ []))) (sym (comes Stops z))
              (round_stops (card_of s) (card_valid s sound) (area s) v (marks_of k₀) q.rounds (marks_of k) q.stands (side_of x) r (marks_of l) (o.round v h) z)

          ends : (v : ℕ → Verdict) (h : Says b v) → r.turn ≡ Ends → Walks (card_of s) (area s) v (marks_of k₀) ((g.goes v h).rounds ++ (r ∷ [])) (outcome_of w)
          ends v h z =
              let q = g.goes v h in
              subst (Walks (card_of s) (area s) v (marks_of k₀) (q.rounds ++ (r ∷ []))) (sym (comes Ends z))
              (round_ends (card_of s) (card_valid s sound) (area s) v (marks_of k₀) q.rounds (marks_of k) q.stands (side_of x) r (marks_of l) (o.round v h) z)
