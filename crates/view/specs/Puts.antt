-- Text put into lent bytes from a place on, and what a listing is written from. This page holds definitions only.
use Rattle.std.specs.Prelude.{ℕ, ◌+◌, ◌≡◌, List, length}
use Rattle.std.proofs.Math.Seq.{paste}
use Rattle.book.specs.Format.{modules}
use Rattle.book.specs.Checks.{most_modules, most_pins}
use Rattle.side.specs.Given.{Lent}
use Rattle.side.specs.Sides.{bytes_for, SpareClear}
use Rattle.view.specs.Listing.{Lists}

-- The text stands from that place on, all other bytes are as they were, and the answer is the place after it.
pub record Put (text : List ℕ) (at : ℕ) (old : List ℕ) (next : ℕ) (new : List ℕ) : Type 0 where
  pub after : next ≡ at + length text
  pub stands : new ≡ paste old at text (length text)

-- Two sides of a book as rows of bits, spare bits 0.
pub record Rows (s near far : List ℕ) : Type 0 where
  pub near_lent : Lent s near
  pub far_lent : Lent s far
  pub near_spare : SpareClear near (modules s)
  pub far_spare : SpareClear far (modules s)

-- Buffers for a split that are never short.
pub record Ample (near far : List ℕ) (flow : ℕ) : Type 0 where
  pub near_long : length near ≡ bytes_for most_modules
  pub far_long : length far ≡ bytes_for most_modules
  pub flow_long : flow ≡ most_pins

-- The listing of a book stands in front.
pub record Listing (s old : List ℕ) (next : ℕ) (new : List ℕ) : Type 0 where
  pub text : List ℕ
  pub lists : Lists s text
  pub put : Put text 0 old next new
