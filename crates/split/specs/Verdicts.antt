-- When the split answers a price, and when it refuses and with what, in the page's words. This page holds definitions only.
use Rattle.std.specs.Prelude.{◌≡◌, ℕ, ◌<◌, List, length, Err}
use Rattle.book.specs.declared.Refusal.{Refusal}
use Rattle.book.specs.declared.Refusal.TheVariants.{Buffer}
use Rattle.book.specs.Format.{modules, pins}
use Rattle.book.specs.Checks.{read_of}
use Rattle.book.specs.Sound.{Sound}
use Rattle.side.specs.Sides.{bytes_for}
use Rattle.side.specs.Given.{Reads}
use Rattle.split.specs.Splits.{Buffers, Holds, Room}

-- a lent buffer is shorter than this call needs
pub data Lacks (s : List ℕ) (b : Buffers) : Type 0 where
  for_near : length b.near < bytes_for (modules s) → Lacks s b
  for_far : length b.far < bytes_for (modules s) → Lacks s b
  for_flow : length b.flow < pins s → Lacks s b

-- the book reads, no buffer is short, and the buffers hold a split of that price
pub record Told (s : List ℕ) (p : ℕ) (old new : Buffers) : Type 0 where
  pub reads : Reads s
  pub sound : Sound s
  pub room : Room s old.near old.far old.flow
  pub holds : Holds s p old new

-- the table of document 01, a case a number
pub data Refuses (s : List ℕ) (old : Buffers) : Refusal → Type 0 where
  reader : {why : Refusal} → read_of s ≡ Err why → Refuses s old why
  short : Reads s → Lacks s old → Refuses s old Buffer
