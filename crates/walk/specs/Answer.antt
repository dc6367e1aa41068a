-- The answer of the walk's call. This page holds definitions only.
use Rattle.std.specs.Prelude.{◌≡◌, ℕ, List, Result, Ok, Err}
use Rattle.book.specs.Format.{modules}
use Rattle.book.specs.Answer.{number_of, place_of}
use Rattle.book.specs.declared.Refusal.TheVariants as refusal
use Rattle.walk.specs.declared.Done.{Done}
use Rattle.walk.specs.declared.NotDone.{NotDone}
use Rattle.walk.specs.declared.NotDone.TheVariants.{Stuck, Refused}
use Rattle.walk.specs.declared.Standing.{Standing}
use Rattle.walk.specs.Walk.{Turn, Stops, Takes, Ends, Answer}
use Rattle.walk.specs.Call.{Left, side_after}
use Rattle.walk.specs.Runs.{outcome_of}

-- Document 01's numbers of an answer: 0 is done; with 14 the count of rounds is the one other number; with any other refusal every other number is 0.
abbrev pub numbers_of : Result Done NotDone → Answer
numbers_of (Ok d) = record { number = 0; place = 0; price = d.price; rounds = d.rounds }
numbers_of (Err (Stuck rounds)) = record { number = number_of refusal.Stuck; place = place_of refusal.Stuck; price = 0; rounds = rounds }
numbers_of (Err (Refused why)) = record { number = number_of why; place = place_of why; price = 0; rounds = 0 }

-- All that the call leaves: the numbers of its answer, and the lent bytes.
abbrev pub left_by : Result Done NotDone → List ℕ → List ℕ → Left
left_by r side rows = record { answer = numbers_of r; side = side; rows = rows }

-- What the last round comes to as an answer.
abbrev pub answered_at : Turn → (price rounds : ℕ) → Result Done NotDone
answered_at Stops price rounds = Ok (record { price = price; rounds = rounds })
answered_at (Takes w m) price rounds = Err (Stuck rounds)
answered_at Ends price rounds = Err (Stuck rounds)

abbrev pub answered_of : Standing → Result Done NotDone
answered_of w = answered_at w.row.turn w.row.price w.rounds

pub record Finished (s : List ℕ) (w : Standing) (old new : List ℕ) (r : Result Done NotDone) : Type 0 where
  pub side : new ≡ side_after (modules s) (outcome_of w) old
  pub answer : r ≡ answered_of w
