-- The walk's call, in the words of document 01: what it answers, and what each lent buffer holds afterwards, whatever came in. This page holds definitions only.
use Rattle.book.specs.declared.Book.{Book}
use Rattle.std.specs.Prelude.{◌≡◌, ℕ, zero, suc, ◌+◌, ◌*◌, ◌/◌, ◌%◌, Bool, true, false, cond, not, ◌&&◌, ◌||◌, List, [], ◌∷◌, ◌++◌, length, drop, nat_lt, Result, Ok, Err}
use Rattle.line.specs.Card.{Side, whole_area}
use Rattle.book.specs.Listed.{listed}
use Rattle.book.specs.Format.{modules, area, mark}
use Rattle.book.specs.Checks.{book_of, read_of}
use Rattle.book.specs.Cards.{card_of}
use Rattle.book.specs.Answer.{number_of, place_of}
use Rattle.book.specs.declared.Refusal.{Refusal}
use Rattle.book.specs.declared.Refusal.TheVariants as refusal
pub use Rattle.side.specs.Sides.{bytes_for}
use Rattle.gate.specs.Gates.{good_gate, gate_says}
use Rattle.gate.specs.declared.Gate.{Gate}
use Rattle.walk.specs.Walk.{Row, taken_of, way_of, Outcome, found, none_left, free_to, Walks, Answer, answer}

-- ---- The lent buffers.

-- All numbers are little-endian: here one in w bytes.
unfoldable pub little_endian : ℕ → ℕ → List ℕ
little_endian zero n = []
little_endian (suc w) n = n % 256 ∷ little_endian w (n / 256)

-- A row of 12 bytes: price u32, area of X u32, module taken u16, way u16.
unfoldable pub row_bytes : Row → List ℕ
row_bytes r = little_endian 4 r.price ++ little_endian 4 r.area ++ little_endian 2 (taken_of r.turn) ++ little_endian 2 (way_of r.turn)

-- Each round writes a row.
unfoldable pub rows_bytes : List Row → List ℕ
rows_bytes [] = []
rows_bytes (r ∷ rs) = row_bytes r ++ rows_bytes rs

-- Bits, the lowest first, as a number.
unfoldable pub binary : (ℕ → Bool) → ℕ → ℕ
binary bit zero = 0
binary bit (suc n) = cond (bit 0) 1 0 + 2 * binary (λ j. bit (suc j)) n

-- A side is a row of bits, in as many bytes as the modules need; module m at bit m mod 8 of byte m div 8; spare bits are 0.
abbrev pub side_byte : Side → ℕ → ℕ → ℕ
side_byte x n i = binary (λ j. nat_lt (8 * i + j) n && x (8 * i + j)) 8

abbrev pub side_bytes : Side → ℕ → List ℕ
side_bytes x n = listed (side_byte x n) (bytes_for n)

-- A buffer longer than needed keeps its tail; bytes after the last row written keep what they held.
abbrev pub over : List ℕ → List ℕ → List ℕ
over new old = new ++ drop (length new) old

-- ---- The checks.

-- With f free modules in the book the row buffer must have room for f + 1.
abbrev pub room_for : List ℕ → ℕ
room_for s = 12 * (free_to (mark s) (modules s) + 1)

-- 8: a lent buffer is shorter than this call needs.
unfoldable pub too_short : List ℕ → List ℕ → List ℕ → Bool
too_short s side rows = nat_lt (length side) (bytes_for (modules s)) || nat_lt (length rows) (room_for s)

abbrev pub refuse_if : Bool → Refusal → Result Book Refusal → Result Book Refusal
refuse_if true r rest = Err r
refuse_if false r rest = rest

abbrev pub if_read : Result Book Refusal → Result Book Refusal → Result Book Refusal
if_read (Ok b) rest = rest
if_read (Err r) rest = Err r

-- Checks 7 and 8 of a book that reads.
abbrev pub checked_sound : List ℕ → Gate → List ℕ → List ℕ → Result Book Refusal
checked_sound s g side rows = refuse_if (not (good_gate g)) refusal.Gate (refuse_if (too_short s side rows) refusal.Buffer (Ok (book_of s)))

-- All calls start with checks 1 to 6; then the walk makes 7 and 8.
unfoldable pub checked_of : List ℕ → Gate → List ℕ → List ℕ → Result Book Refusal
checked_of s g side rows = if_read (read_of s) (checked_sound s g side rows)

-- ---- What the call leaves: the numbers of its answer, and the lent bytes.
pub record Left : Type 0 where
  pub answer : Answer
  pub side : List ℕ
  pub rows : List ℕ

-- With 1 to 13 nothing is written and every other number in the answer is 0.
abbrev pub refused : Refusal → List ℕ → List ℕ → Left
refused r side rows = record { answer = record { number = number_of r; place = place_of r; price = 0; rounds = 0 }; side = side; rows = rows }

-- The walk writes the side and the rows. With 14 only the round rows are written.
abbrev pub side_after : ℕ → Outcome → List ℕ → List ℕ
side_after n (found x) side = over (side_bytes x n) side
side_after n none_left side = side

abbrev pub written : List ℕ → List Row → Outcome → List ℕ → List ℕ → Left
written s rs o side rows = record { answer = answer (card_of s) rs o; side = side_after (modules s) o side; rows = over (rows_bytes rs) rows }

-- The walk of a book under a gate, from the book's own marks.
abbrev pub BookWalks : List ℕ → Gate → List Row → Outcome → Type 0
BookWalks s g rs o = Walks (card_of s) (area s) (gate_says g (whole_area (card_of s) (area s))) (mark s) rs o

-- The call leaves what some walk of the book writes.
pub record Written (s : List ℕ) (g : Gate) (side rows : List ℕ) (a : Left) : Type 0 where
  pub rounds : List Row
  pub outcome : Outcome
  pub walks : BookWalks s g rounds outcome
  pub left : a ≡ written s rounds outcome side rows

abbrev pub Comes : Result Book Refusal → List ℕ → Gate → List ℕ → List ℕ → Left → Type 0
Comes (Err r) s g side rows a = a ≡ refused r side rows
Comes (Ok b) s g side rows a = Written s g side rows a

-- The statement of the walk's call on the book s, with the gate g and the lent side and rows: a is all that it leaves.
abbrev pub Walked : List ℕ → Gate → List ℕ → List ℕ → Left → Type 0
Walked s g side rows a = Comes (checked_of s g side rows) s g side rows a
