-- The checker: what it answers, whatever the bytes and the numbers. This page holds definitions only.
use Rattle.audit.specs.declared.Value.{Value}
use Rattle.book.specs.declared.Book.{Book}
use Rattle.std.specs.Prelude.{ℕ, ◌+◌, Bool, true, false, not, ◌&&◌, ◌||◌, List, ltb, eqb, ℤ, length, Result, Ok, Err, ⊤}
use Rattle.line.specs.Card.{price}
use Rattle.book.specs.declared.Refusal.{Refusal}
use Rattle.book.specs.declared.Refusal.TheVariants.{Buffer, Side, Values}
use Rattle.book.specs.Format.{pins}
use Rattle.book.specs.Checks.{read_of}
use Rattle.book.specs.Cards.{nets_of}
use Rattle.book.specs.Answer.{number_of, place_of}
use Rattle.side.specs.Sides.{side_of}
use Rattle.side.specs.Given.{is_short, is_good}
use Rattle.audit.specs.Rules.{ruled_of}

-- what meter modules send is what they take and the price besides, and the price is the claimed one
unfoldable pub agree : ℕ → ℕ → ℕ → ℕ → Bool
agree sent taken price claim = eqb sent (taken + price) && eqb price claim

-- check 13
abbrev pub accept_if : Bool → Result ⊤ Refusal
accept_if true = Ok tt
accept_if false = Err Values

abbrev pub judged : Result Value Refusal → ℕ → ℕ → Result ⊤ Refusal
judged (Err why) price claim = Err why
judged (Ok v) price claim = accept_if (agree v.sent v.taken price claim)

-- checks 11 to 13
unfoldable pub checked_good : List ℕ → List ℕ → List ℤ → ℕ → Result ⊤ Refusal
checked_good s l xs claim = judged (ruled_of s xs) (price (nets_of s) (side_of l)) claim

-- check 8 of the flow: it has fewer numbers than the book has pins
unfoldable pub is_short_flow : List ℕ → List ℤ → Bool
is_short_flow s xs = ltb (length xs) (pins s)

-- where the test holds the refusal, and failing that the rest
abbrev pub refuse_if : Bool → Refusal → Result ⊤ Refusal → Result ⊤ Refusal
refuse_if true why rest = Err why
refuse_if false why rest = rest

-- checks 8, 9 and 11 to 13 of a book that reads
unfoldable pub checked_sound : List ℕ → List ℕ → List ℤ → ℕ → Result ⊤ Refusal
checked_sound s l xs claim = refuse_if (is_short_flow s xs || is_short s l) Buffer (refuse_if (not (is_good s l)) Side (checked_good s l xs claim))

-- the reader's refusal, or the rest
abbrev pub after_read : Result Book Refusal → Result ⊤ Refusal → Result ⊤ Refusal
after_read (Ok b) rest = rest
after_read (Err why) rest = Err why

-- checks 1 to 6, 8, 9 and 11 to 13
unfoldable pub checked_of : List ℕ → List ℕ → List ℤ → ℕ → Result ⊤ Refusal
checked_of s l xs claim = after_read (read_of s) (checked_sound s l xs claim)

-- document 01's numbers of an answer: 0 is done
pub record Numbers : Type 0 where
  pub number : ℕ
  pub place : ℕ

abbrev pub numbers_of : Result ⊤ Refusal → Numbers
numbers_of (Ok _) = record { number = 0; place = 0 }
numbers_of (Err why) = record { number = number_of why; place = place_of why }
