-- From the walk as it ended to what the call leaves (`wrote`), by way of its checks (`long_enough`, `read_refuses`, `read_good`). Assumes nothing.
use Rattle.std.specs.Prelude.{◌≡◌, ℕ, ◌≤◌, true, false, ltb, List, length, Result, Ok, Err, is_ok}
use mathlib.Core.Path.{ap, ap₂, ◌∙◌}
use native.Mathlib.Omega.{arith}
use borrow.Author.Tests.{ltb-false}
use Rattle.line.specs.Card.{whole_area, price}
use Rattle.line.proofs.Bools.{or_none}
use Rattle.book.specs.Checks.{read_of}
use Rattle.book.specs.Format.{modules, area}
use Rattle.book.specs.Cards.{card_of, nets_of}
use Rattle.book.proofs.Netlists.{reads_as}
use Rattle.book.specs.declared.Refusal.{Refusal}
use Rattle.side.specs.Sides.{side_of, bytes_for}
use Rattle.gate.specs.Gates.{band_of, band_says, gate_says}
use Rattle.gate.specs.declared.Band.{Band}
use Rattle.gate.specs.declared.Gate.{Gate}
use Rattle.gate.proofs.Areas.{band-says}
use Rattle.walk.specs.declared.Done.{Done}
use Rattle.walk.specs.declared.NotDone.{NotDone}
use Rattle.walk.specs.declared.NotDone.TheVariants.{Stuck, Refused}
use Rattle.walk.specs.declared.Standing.{Standing}
use Rattle.walk.specs.Walk.{Turn, Stops, Takes, Ends, Row, answer}
use Rattle.walk.specs.Call.{room_for, too_short, checked_sound, checked_of, Left, Written, Comes, Walked}
use Rattle.walk.specs.Work.{Says}
use Rattle.walk.specs.Runs.{outcome_at, outcome_of, Ran}
use Rattle.walk.specs.Answer.{numbers_of, left_by, answered_at, answered_of, Finished}

-- the band stands for the gate
says : (g : Gate) (w t : ℕ) (b : Band) → b ≡ band_of g w → w ≡ t → Says b (gate_says g t)
says g w t b e f a h = ap (λ (b : Band). band_says b a) e ∙ band-says g w a (omega arith) ∙ ap (λ (w : ℕ). gate_says g w a) f

module _ (s : List ℕ) (w : Standing) (rs : List Row) (count : w.rounds ≡ length rs) (cost : w.row.price ≡ price (nets_of s) (side_of w.x)) where
  numbers : numbers_of (answered_of w) ≡ answer (card_of s) rs (outcome_of w)
  numbers = go w.row.turn
    where
      go : (t : Turn) → numbers_of (answered_at t w.row.price w.rounds) ≡ answer (card_of s) rs (outcome_at t (side_of w.x))
      go Stops = ap₂ (λ (p n : ℕ). numbers_of (Ok (record { price = p; rounds = n }))) cost count
      go (Takes y m) = ap (λ (n : ℕ). numbers_of (Err (Stuck n))) count
      go Ends = ap (λ (n : ℕ). numbers_of (Err (Stuck n))) count

pub wrote : (s : List ℕ) (g : Gate) (t : ℕ) (b : Band) (side rows side' rows' : List ℕ) (w : Standing) (r : Result Done NotDone) → b ≡ band_of g t → t ≡ whole_area (card_of s) (area s) →
    Ran s b rows rows' w → Finished s w side side' r → Written s g side rows (left_by r side' rows')
wrote s g t b side rows side' rows' w r e f ran fin =
    let q = ran (gate_says g (whole_area (card_of s) (area s))) (says g t (whole_area (card_of s) (area s)) b e f) in
    let n : numbers_of r ≡ answer (card_of s) q.rounds (outcome_of w) = ap numbers_of fin.answer ∙ numbers s w q.rounds q.count q.price in
    record { rounds = q.rounds; outcome = outcome_of w; walks = q.walks; left = λ i. record { answer = n i; side = fin.side i; rows = q.bytes i } }

module _ (s : List ℕ) (g : Gate) (side rows : List ℕ) (a : Left) where
  pub read_good : is_ok (read_of s) ≡ true → Comes (checked_sound s g side rows) s g side rows a → Walked s g side rows a
  unfolding checked_of
  read_good e h = let b = reads_as (read_of s) e in rw b.1 h

  pub read_refuses : (why : Refusal) → read_of s ≡ Err why → a ≡ left_by (Err (Refused why)) side rows → Walked s g side rows a
  unfolding checked_of
  read_refuses why e h = rw e h

pub long_enough : (s side rows : List ℕ) → too_short s side rows ≡ false → (bytes_for (modules s) ≤ length side) × (room_for s ≤ length rows)
unfolding too_short
long_enough s side rows e =
    let k = or_none (ltb (length side) (bytes_for (modules s))) (ltb (length rows) (room_for s)) e in
    (ltb-false (length side) (bytes_for (modules s)) k.0, ltb-false (length rows) (room_for s) k.1)
