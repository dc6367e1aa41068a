-- A case of the desk's table: a book, a call on it and what is expected of it, in document 01's numbers; and what it means that a case holds. This page holds definitions only.
use Rattle.book.specs.declared.Refusal.{Refusal}
use Rattle.std.specs.Prelude.{◌≡◌, ◌↔◌, not, List, [], ◌∷◌, map, ℕ, T, ℤ, pos, Float, Result}
use Rattle.line.specs.Card as card
use Rattle.line.specs.Card.{Near, Far, whole_area}
use Rattle.book.specs.Format.{area}
use Rattle.book.specs.Checks.{read_of}
use Rattle.book.specs.Cards.{card_of, nets_of}
use Rattle.book.specs.Answer as reader
use Rattle.side.specs.Sides.{side_of, Bytes}
use Rattle.side.specs.Prices as prices
use Rattle.side.specs.Moves as moves
use Rattle.audit.specs.Checker as checker
use Rattle.split.specs.Splits as splits
use Rattle.split.specs.Splits.{Buffers, Split}
use Rattle.gate.specs.Gates.{good_gate, band_of}
use Rattle.gate.specs.declared.Gate.{Gate}
use Rattle.walk.specs.declared.Row.{Row}
use Rattle.walk.specs.Walk.{Answer, taken_of, way_of}
use Rattle.walk.specs.Call as walks
use Rattle.walk.specs.Call.{Left, Walked, rows_bytes, over}

-- ---- What is asked, and what is told.

-- A call, with what it is given beside the book.
pub data Call : Type 0 where
  read : Call
  price : (side : List ℕ) → Call
  move : (side : List ℕ) (m : ℕ) → Call
  check : (side : List ℕ) (flow : List ℤ) (claim : ℕ) → Call
  split : Call
  walk : Gate → Call

-- A split: the numbers of its answer, and the bytes of the near side and of the far side.
pub record Parts : Type 0 where
  pub numbers : splits.Numbers
  pub near : List ℕ
  pub far : List ℕ

-- A row of the walk in its four numbers: price, area of X, module taken, way.
pub record RowNumbers : Type 0 where
  pub price : ℕ
  pub area : ℕ
  pub taken : ℕ
  pub way : ℕ

abbrev pub numbers_in : Row → RowNumbers
numbers_in r = record { price = r.price; area = r.area; taken = taken_of r.turn; way = way_of r.turn }

-- A walk: the numbers of its answer, its rows, and the bytes of its side.
pub record Rounds : Type 0 where
  pub numbers : Answer
  pub rows : List RowNumbers
  pub side : List ℕ

-- What a call tells: document 01's numbers of its answer, and what it writes.
abbrev pub Told : Call → Type 0
Told read = reader.Numbers
Told (price l) = prices.Numbers
Told (move l m) = moves.Numbers
Told (check l xs p) = checker.Numbers
Told split = Parts
Told (walk g) = Rounds

-- 0 is done: the counts of modules, nets and pins; a price; a change; nothing more; a price with both sides; a price and a count of rounds, with the rows and the side.
abbrev pub counts : ℕ → ℕ → ℕ → reader.Numbers
counts m n p = record { number = 0; place = 0; modules = m; nets = n; pins = p }

abbrev pub costs : ℕ → prices.Numbers
costs p = record { number = 0; place = 0; price = p }

abbrev pub changes : ℤ → moves.Numbers
changes z = record { number = 0; place = 0; change = z }

abbrev pub accepted : checker.Numbers
accepted = record { number = 0; place = 0 }

abbrev pub parts : ℕ → List ℕ → List ℕ → Parts
parts p near far = record { numbers = record { number = 0; place = 0; price = p }; near = near; far = far }

abbrev pub found : ℕ → ℕ → List RowNumbers → List ℕ → Rounds
found p n rows side = record { numbers = record { number = 0; place = 0; price = p; rounds = n }; rows = rows; side = side }

-- With 14 only the round rows are written, and the count of rounds is the one other number.
abbrev pub stuck : ℕ → List RowNumbers → Rounds
stuck n rows = record { numbers = record { number = 14; place = 0; price = 0; rounds = n }; rows = rows; side = [] }

-- With 1 to 13 nothing is written and every other number in the answer is 0.
abbrev pub refused : (k : Call) (number place : ℕ) → Told k
refused read n i = record { number = n; place = i; modules = 0; nets = 0; pins = 0 }
refused (price l) n i = record { number = n; place = i; price = 0 }
refused (move l m) n i = record { number = n; place = i; change = pos 0 }
refused (check l xs p) n i = record { number = n; place = i }
refused split n i = record { numbers = record { number = n; place = i; price = 0 }; near = []; far = [] }
refused (walk g) n i = record { numbers = record { number = n; place = i; price = 0; rounds = 0 }; rows = []; side = [] }

-- ---- A case.

-- A call on a book tells this; it is refused with this number at this place; a gate works out to this low and high, with the book's total area.
pub data Case : Type 0 where
  tells : (book : List ℕ) (call : Call) → Told call → Case
  refuses : (book : List ℕ) (call : Call) (number place : ℕ) → Case
  works_out : (book : List ℕ) (gate : Gate) (low high : Float) → Case

-- ---- When it holds.

-- What a split leaves: the numbers, and both sides written over what their buffers held.
pub record Leaves (t : Parts) (old : Buffers) (r : Result ℕ Refusal) (new : Buffers) : Type 0 where
  pub numbers : splits.numbers_of r ≡ t.numbers
  pub near : new.near ≡ over t.near old.near
  pub far : new.far ≡ over t.far old.far

-- By the page of meanings: the near side, the far side and their price.
pub record Drawn (s : List ℕ) (t : Parts) : Type 0 where
  pub near_side : Near (card_of s) (side_of t.near)
  pub far_side : Far (card_of s) (side_of t.far)
  pub price_is : card.price (nets_of s) (side_of t.near) ≡ t.numbers.price

-- Whatever the lent buffers, where none is short: each result that the split's statement allows leaves this. And where the split is done, this is so by the page of meanings.
pub record SplitTells (s : List ℕ) (t : Parts) : Type 0 where
  pub every : (old new : Buffers) (r : Result ℕ Refusal) → T (not (splits.too_short s old)) → Bytes new.near → Bytes new.far → Split s old r new → Leaves t old r new
  pub page : t.numbers.number ≡ 0 → Drawn s t

-- What a walk of these rounds leaves: the numbers, and the side and the rows written over what their buffers held.
abbrev pub leaves : Rounds → List Row → List ℕ → List ℕ → Left
leaves t rounds side rows = record { answer = t.numbers; side = over t.side side; rows = over (rows_bytes rounds) rows }

-- There are rounds with the numbers told. And whatever the lent buffers, where none is short: the walk's statement allows what these rounds leave, and nothing else.
pub record WalkTells (s : List ℕ) (g : Gate) (t : Rounds) : Type 0 where
  pub rounds : List Row
  pub told : map numbers_in rounds ≡ t.rows
  pub every : (side rows : List ℕ) (a : Left) → T (not (walks.too_short s side rows)) → Walked s g side rows a ↔ (a ≡ leaves t rounds side rows)

-- A call on a book tells this, by the call's own statement.
abbrev pub Tells : List ℕ → (k : Call) → Told k → Type 0
Tells s read t = reader.numbers_of (read_of s) ≡ t
Tells s (price l) t = prices.numbers_of (prices.priced s l) ≡ t
Tells s (move l m) t = moves.numbers_of (moves.changed s l m) ≡ t
Tells s (check l xs p) t = checker.numbers_of (checker.checked_of s l xs p) ≡ t
Tells s split t = SplitTells s t
Tells s (walk g) t = WalkTells s g t

-- The gate is good, and the worked-out gate is this pair of doubles.
pub record WorksOut (s : List ℕ) (g : Gate) (low high : Float) : Type 0 where
  pub good : T (good_gate g)
  pub band : band_of g (whole_area (card_of s) (area s)) ≡ record { low = low; high = high }

abbrev pub Holds : Case → Type 0
Holds (tells s k t) = Tells s k t
Holds (refuses s k n i) = Tells s k (refused k n i)
Holds (works_out s g low high) = WorksOut s g low high

-- P holds of each case.
abbrev pub Each : (Case → Type 0) → List Case → Type 0
Each P [] = Unit {0}
Each P (c ∷ cs) = P c × Each P cs
