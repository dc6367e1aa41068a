-- What the engine makes of a card: both sides as rows of bits, and a fair flow. Definitions only.
use Rattle.std.specs.Prelude.{◌≡◌, ℕ, ◌<◌, ◌≤◌, List, length, drop, ℤ, pos, slice_index_or}
use Rattle.line.specs.Card.{Card, price, Near, Far}
use Rattle.line.specs.Flow.{Fair, value}
use Rattle.side.specs.Sides.{side_of, bytes_for, SpareClear}
use Rattle.book.specs.Checks.{most_modules, most_nets, most_pins}
use Rattle.flow.specs.Cards.{Small, Laid}

-- a row of bits written over an old one: spare bits are 0, and the tail is kept
pub record Row (m : ℕ) (old new : List ℕ) : Type 0 where
  pub long : length new ≡ length old
  pub spare : SpareClear new m
  pub tail : drop (bytes_for m) new ≡ drop (bytes_for m) old

-- the near side, the far side, and a fair flow of their price, one number a pin
pub record Solved (c : Card) (near₀ far₀ near far : List ℕ) (fl : List ℤ) : Type 0 where
  pub near_row : Row c.modules near₀ near
  pub far_row : Row c.modules far₀ far
  pub near_side : Near c (side_of near)
  pub far_side : Far c (side_of far)
  pub fair : Fair c fl
  pub value : value c fl ≡ pos (price c.nets (side_of near))
  pub small : (p : ℕ) → p < length fl → Small (slice_index_or fl p (pos 0))

-- both sides have the bytes that so many modules need
pub record Rooms (m : ℕ) (near far : List ℕ) : Type 0 where
  pub for_near : bytes_for m ≤ length near
  pub for_far : bytes_for m ≤ length far

-- the slices of a card within a book's limits, with marks apart
pub record Slices (fs ms ws mk : List ℕ) : Type 0 where
  pub laid : Laid fs ms ws mk
  pub few_modules : length mk ≤ most_modules
  pub few_nets : length ws ≤ most_nets
  pub few_pins : length ms ≤ most_pins

-- a fair flow to begin with, one number a pin, and room for both sides
pub record Begins (c : Card) (ms near far : List ℕ) (fl : List ℤ) : Type 0 where
  pub fair : Fair c fl
  pub long : length fl ≡ length ms
  pub rooms : Rooms c.modules near far
