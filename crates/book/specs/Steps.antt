-- A step of a cursor: over a number of a book, and over an entry of its contents. Definitions only.
use Rattle.book.specs.declared.Cursor.{Cursor}
use Rattle.std.specs.Prelude.{ℕ, ◌+◌, Bool, true, false, ◌&&◌, List, length, leb, Option, Some, None}
use Rattle.book.specs.Format.{u32, entry_is}

-- where the bytes are there, the number with the cursor after it, and failing that the end
abbrev pub step_if : Bool → ℕ → ℕ → Option (ℕ × Cursor)
step_if true n next = Some (n, (record { at = next }))
step_if false n next = None

-- over a number of w bytes at an offset
unfoldable pub step_by : ℕ → (List ℕ → ℕ → ℕ) → List ℕ → ℕ → Option (ℕ × Cursor)
step_by w number s at = step_if (leb (at + w) (length s)) (number s at) (at + w)

-- over an entry of the contents that is as it should be: the number is where its body ends
unfoldable pub step_entry : List ℕ → ℕ → ℕ → ℕ → ℕ → Option (ℕ × Cursor)
step_entry s at kind start unit = step_if (leb (at + 10) (length s) && entry_is s at kind start unit) (start + u32 s (at + 6)) (at + 10)

-- the number that a step hands out, and 0 at the end
abbrev pub number_in : Option (ℕ × Cursor) → ℕ
number_in (Some (n, c)) = n
number_in None = 0
