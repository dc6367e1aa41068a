-- The rounds together: what the walk has come to, and what the rows hold. This page holds definitions only.
use Rattle.std.specs.Prelude.{◌≡◌, ℕ, List, length, take}
use Rattle.line.specs.Card.{Side, price}
use Rattle.book.specs.Format.{modules, area, mark}
use Rattle.book.specs.Cards.{nets_of, card_of}
use Rattle.side.specs.Sides.{side_of, SpareClear}
use Rattle.gate.specs.declared.Band.{Band}
use Rattle.gate.specs.declared.Verdict.{Verdict}
use Rattle.walk.specs.declared.Standing.{Standing}
use Rattle.walk.specs.Walk.{Turn, Stops, Takes, Ends, Row, Outcome, found, none_left, Walks}
use Rattle.walk.specs.Call.{rows_bytes, over}
use Rattle.walk.specs.Work.{Says}

-- The marks of the book's modules.
abbrev pub standing_marks : List ℕ → Standing → List ℕ
standing_marks s w = take (modules s) w.marks

-- What the last round came to.
abbrev pub outcome_at : Turn → Side → Outcome
outcome_at Stops x = found x
outcome_at (Takes w m) x = none_left
outcome_at Ends x = none_left

abbrev pub outcome_of : Standing → Outcome
outcome_of w = outcome_at w.row.turn (side_of w.x)

-- The walk of the book, where the gate says v, has come to w and has written its rows.
pub record RanBy (s : List ℕ) (v : ℕ → Verdict) (old new : List ℕ) (w : Standing) : Type 0 where
  pub rounds : List Row
  pub walks : Walks (card_of s) (area s) v (mark s) rounds (outcome_of w)
  pub bytes : new ≡ over (rows_bytes rounds) old
  pub count : w.rounds ≡ length rounds
  pub price : w.row.price ≡ price (nets_of s) (side_of w.x)
  pub spare : SpareClear w.x (modules s)

abbrev pub Ran : List ℕ → Band → List ℕ → List ℕ → Standing → Type 0
Ran s b old new w = (v : ℕ → Verdict) → Says b v → RanBy s v old new w
