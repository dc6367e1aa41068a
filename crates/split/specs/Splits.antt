-- The call that splits a book: what it answers and what it writes, whatever the bytes. Definitions only.
use Rattle.book.specs.declared.Book.{Book}
use Rattle.std.specs.Prelude.{◌≡◌, ℕ, ◌≤◌, Bool, true, false, ◌||◌, List, length, take, drop, ℤ, nat_lt, Result, Ok, Err}
use Rattle.line.specs.Card.{price}
use Rattle.book.specs.Format.{modules, pins}
use Rattle.book.specs.Checks.{read_of}
use Rattle.book.specs.Cards.{card_of, nets_of}
use Rattle.book.specs.Sound.{Sound}
use Rattle.book.specs.Answer.{number_of, place_of}
use Rattle.book.specs.declared.Refusal.{Refusal}
use Rattle.book.specs.declared.Refusal.TheVariants.{Buffer}
use Rattle.side.specs.Sides.{side_of, bytes_for}
use Rattle.side.specs.Given.{is_short}
use Rattle.split.specs.Solved.{Solved}

-- The three lent buffers.
pub record Buffers : Type 0 where
  pub near : List ℕ
  pub far : List ℕ
  pub flow : List ℤ

abbrev pub buffers : List ℕ → List ℕ → List ℤ → Buffers
buffers near far flow = record { near = near; far = far; flow = flow }

-- Check 8: a lent buffer is shorter than this call needs.
unfoldable pub too_short : List ℕ → Buffers → Bool
too_short s b = is_short s b.near || is_short s b.far || nat_lt (length b.flow) (pins s)

-- What the buffers hold after a split: the near side, the far side, and a fair flow of their price, with every tail kept.
pub record Holds (s : List ℕ) (p : ℕ) (old new : Buffers) : Type 0 where
  pub solved : Solved (card_of s) old.near old.far new.near new.far (take (pins s) new.flow)
  pub long : length new.flow ≡ length old.flow
  pub tail : drop (pins s) new.flow ≡ drop (pins s) old.flow
  pub price_is : p ≡ price (nets_of s) (side_of new.near)

-- Err: nothing is written.
pub record Kept (why : Refusal) (old : Buffers) (r : Result ℕ Refusal) (new : Buffers) : Type 0 where
  pub refused : r ≡ Err why
  pub kept : new ≡ old

-- Done: the price, and what the buffers hold.
pub record Done (s : List ℕ) (old : Buffers) (r : Result ℕ Refusal) (new : Buffers) : Type 0 where
  pub at_price : ℕ
  pub answer : r ≡ Ok at_price
  pub holds : Holds s at_price old new

-- Check 8, then the split.
abbrev pub SplitIf : Bool → List ℕ → Buffers → Result ℕ Refusal → Buffers → Type 0
SplitIf true s old r new = Kept Buffer old r new
SplitIf false s old r new = Done s old r new

-- Checks 1 to 6 first.
abbrev pub SplitBy : Result Book Refusal → List ℕ → Buffers → Result ℕ Refusal → Buffers → Type 0
SplitBy (Err why) s old r new = Kept why old r new
SplitBy (Ok b) s old r new = SplitIf (too_short s old) s old r new

abbrev pub Split : List ℕ → Buffers → Result ℕ Refusal → Buffers → Type 0
Split s old r new = SplitBy (read_of s) s old r new

-- Document 01's numbers of an answer: 0 is done, and with a refusal every other number is 0.
pub record Numbers : Type 0 where
  pub number : ℕ
  pub place : ℕ
  pub price : ℕ

abbrev pub numbers_of : Result ℕ Refusal → Numbers
numbers_of (Ok p) = record { number = 0; place = 0; price = p }
numbers_of (Err why) = record { number = number_of why; place = place_of why; price = 0 }

-- a sound book and buffers with what the call needs, the flow with one number a pin
pub record Room (s near far : List ℕ) (flow : List ℤ) : Type 0 where
  pub sound : Sound s
  pub for_near : bytes_for (modules s) ≤ length near
  pub for_far : bytes_for (modules s) ≤ length far
  pub for_flow : pins s ≤ length flow
