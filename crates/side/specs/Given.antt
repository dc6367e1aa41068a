-- A given side of a book: what is asked of it before it is looked at, and checks 8 and 9. Definitions only.
use Rattle.std.specs.Prelude.{ℕ, ◌≤◌, ◌<◌, ◌≡◌, Bool, true, false, not, ◌&&◌, ◌||◌, List, eqb, ltb, length, Result, Ok, Err, ⊤}
use Rattle.line.specs.Card as card
use Rattle.book.specs.First.{lowest, is_nothing}
use Rattle.book.specs.Format.{modules, nets, mark, first_pin}
use Rattle.book.specs.Checks.{read_of}
use Rattle.book.specs.Sound.{Sound}
use Rattle.book.specs.Cards.{card_of}
use Rattle.book.specs.declared.Book.{Book}
use Rattle.book.specs.declared.Refusal.{Refusal}
use Rattle.book.specs.declared.Refusal.TheVariants.{Buffer, Side}
use Rattle.side.specs.Sides.{side_of, bytes_for, SpareClear, spare_test}

-- a sound book, and a side with the bytes that it needs
pub record Lent (s l : List ℕ) : Type 0 where
  pub sound : Sound s
  pub enough : bytes_for (modules s) ≤ length l

-- net n of a book, whose pins begin at `first`
pub record AtNet (s : List ℕ) (n first : ℕ) : Type 0 where
  pub under : n < nets s
  pub begins : first ≡ first_pin s n

-- a side that passes checks 8 and 9
pub record Fits (s l : List ℕ) : Type 0 where
  pub enough : bytes_for (modules s) ≤ length l
  pub separates : card.Separates (card_of s) (side_of l)
  pub spare : SpareClear l (modules s)

-- a book that passes checks 1 to 6
abbrev pub Reads : List ℕ → Type 0
Reads s = (b : Book) × (read_of s ≡ Ok b)

-- when checks 1 to 6, 8 and 9 refuse, and with what
pub data Refuses (s l : List ℕ) : Refusal → Type 0 where
  reader : {why : Refusal} → read_of s ≡ Err why → Refuses s l why
  short : Reads s → length l < bytes_for (modules s) → Refuses s l Buffer
  misfit : Reads s → bytes_for (modules s) ≤ length l → (Fits s l → ⊥) → Refuses s l Side

-- ---- the checks as tests

-- module m is a meter off the side, or a maker on it
unfoldable pub misplaced : List ℕ → card.Side → ℕ → Bool
misplaced s x m = (eqb (mark s m) 1 && not (x m)) || (eqb (mark s m) 2 && x m)

-- no module is
unfoldable pub separates : List ℕ → card.Side → Bool
separates s x = is_nothing (lowest (misplaced s x) (modules s))

-- check 8: the side is shorter than its modules need
unfoldable pub is_short : List ℕ → List ℕ → Bool
is_short s l = ltb (length l) (bytes_for (modules s))

-- check 9 passes
unfoldable pub is_good : List ℕ → List ℕ → Bool
is_good s l = separates s (side_of l) && spare_test l (modules s)

-- where the test holds the refusal, and failing that the rest
abbrev pub refuse_if : Bool → Refusal → Result ⊤ Refusal → Result ⊤ Refusal
refuse_if true why rest = Err why
refuse_if false why rest = rest

-- checks 8 and 9 of a book that reads
unfoldable pub given_sound : List ℕ → List ℕ → Result ⊤ Refusal
given_sound s l = refuse_if (is_short s l) Buffer (refuse_if (not (is_good s l)) Side (Ok tt))

-- the reader's refusal, or the rest
abbrev pub after_read : Result Book Refusal → Result ⊤ Refusal → Result ⊤ Refusal
after_read (Ok b) rest = rest
after_read (Err why) rest = Err why

-- checks 1 to 6, 8 and 9, whatever the bytes
unfoldable pub given : List ℕ → List ℕ → Result ⊤ Refusal
given s l = after_read (read_of s) (given_sound s l)
