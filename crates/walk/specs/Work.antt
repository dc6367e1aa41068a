-- What a round works on, and what it leaves. This page holds definitions only.
use Rattle.std.specs.Prelude.{◌≡◌, ℕ, ◌<◌, ◌≤◌, Bool, true, false, not, List, length}
use Rattle.line.specs.Card.{Card, Side, Near, Alike, price}
use Rattle.book.specs.Format.{modules, area}
use Rattle.book.specs.Cards as book
use Rattle.side.specs.Sides.{side_of, SpareClear}
use Rattle.side.specs.Prices.{most_area}
use Rattle.gate.specs.Gates.{band_says}
use Rattle.gate.specs.declared.Band.{Band}
use Rattle.gate.specs.declared.Verdict.{Verdict}
use Rattle.walk.specs.Walk.{Way, Meter, Maker, Turn, Row, choice, taking, turn, after_turn, Round}
use Rattle.walk.specs.Parts.{side_from, marks_of}

-- The near side as a row of bits.
pub record NearRow (c : Card) (old new : List ℕ) : Type 0 where
  pub long : length new ≡ length old
  pub near : Near c (side_of new)
  pub spare : SpareClear new c.modules

-- One mark a module, 0, 1 or 2.
pub record Marked (s k : List ℕ) : Type 0 where
  pub long : length k ≡ modules s
  pub low : (m : ℕ) → m < modules s → marks_of k m ≤ 2

-- To the meter, a round pins X itself; to the maker, what lies outside.
abbrev pub is_meter : Way → Bool
is_meter Meter = true
is_meter Maker = false

-- What a round comes to that pins that way: it takes its module on the other side of X.
abbrev pub taking_from : List ℕ → (ℕ → ℕ) → Side → Way → Turn
taking_from s k x w = taking w (choice (book.card_of s) k x (side_from (not (is_meter w)) x))

-- The marks that a turn gives.
pub record Pins (s : List ℕ) (k : List ℕ) (x : Side) (t : Turn) (l : List ℕ) : Type 0 where
  pub marks : Alike (modules s) (after_turn t x (marks_of k)) (marks_of l)
  pub marked : Marked s l

-- With its row.
pub record Turned (s : List ℕ) (k : List ℕ) (x : Side) (price area : ℕ) (t : Turn) (r : Row) (l : List ℕ) : Type 0 where
  pub row : r ≡ record { price = price; area = area; turn = t }
  pub pins : Pins s k x t l

-- What a band says of each area that a book can have.
abbrev pub Says : Band → (ℕ → Verdict) → Type 0
Says b v = (a : ℕ) → a ≤ most_area → band_says b a ≡ v a

-- What a round comes to with X known.
abbrev pub turn_of : List ℕ → (ℕ → Verdict) → List ℕ → Side → Turn
turn_of s v k x = turn (book.card_of s) (area s) v (marks_of k) x

abbrev pub Stepped : List ℕ → Band → List ℕ → Side → Row → List ℕ → Type 0
Stepped s b k x r l = (v : ℕ → Verdict) → Says b v → Turned s k x (price (book.nets_of s) x) (book.area_of s x) (turn_of s v k x) r l

-- One round, from the marks k to the marks l, by the near side x.
pub record OneRound (s : List ℕ) (b : Band) (k : List ℕ) (x : List ℕ) (r : Row) (l : List ℕ) : Type 0 where
  pub round : (v : ℕ → Verdict) → Says b v → Round (book.card_of s) (area s) v (marks_of k) (side_of x) r (marks_of l)
  pub spare : SpareClear x (modules s)
  pub marked : Marked s l
