-- The listing: which text it is, and what the call writes and answers, whatever came in. This page holds definitions only.
use Rattle.book.specs.declared.Book.{Book}
use Rattle.book.specs.declared.Refusal.{Refusal}
use Rattle.book.specs.declared.Cursor.{Cursor}
use Rattle.std.specs.Prelude.{ℕ, ◌+◌, ◌*◌, ◌≡◌, Bool, true, false, List, ◌++◌, ltb, length, drop, Option, Some, None, Result, Ok, Err}
use Rattle.line.specs.Card.{Side, price, Near, Far}
use Rattle.book.specs.Checks.{most_modules, most_nets, most_pins, read_of}
use Rattle.book.specs.Cards.{card_of, nets_of}
use Rattle.book.specs.declared.Refusal.TheVariants.{Counts}
use Rattle.view.specs.Text.{split_text, refused_text}

-- The bytes of the largest book: contents, modules, nets and pins.
abbrev pub largest_book : ℕ
largest_book = 32 + 4 * most_modules + 4 * most_nets + 2 * most_pins

-- The text names the near side and the far side of the card that the book is, and their price.
pub record Splits (s text : List ℕ) : Type 0 where
  pub near : Side
  pub far : Side
  pub near_is : Near (card_of s) near
  pub far_is : Far (card_of s) far
  pub text_is : text ≡ split_text s (price (nets_of s) near) near far

abbrev pub ListsBy : Result Book Refusal → List ℕ → List ℕ → Type 0
ListsBy (Err why) s text = text ≡ refused_text why
ListsBy (Ok b) s text = Splits s text

-- The listing of a book: its split, or the refusal of checks 1 to 6.
abbrev pub Lists : List ℕ → List ℕ → Type 0
Lists s text = ListsBy (read_of s) s text

abbrev pub PrintsIf : Bool → List ℕ → List ℕ → Type 0
PrintsIf true s text = text ≡ refused_text Counts
PrintsIf false s text = Lists s text

-- The listing of what came in: more bytes than the largest book has is refusal 2, whatever they say.
abbrev pub Prints : List ℕ → List ℕ → Type 0
Prints s text = PrintsIf (ltb largest_book (length s)) s text

-- Room for the text of a side: a name of 5 bytes, numbers of 20 digits, the lines of its modules with 5 bytes each.
abbrev pub side_room : ℕ
side_room = 5 + 20 + 14 + 20 + 1 + 5 * most_modules

-- Room for every listing.
abbrev pub room : ℕ
room = 6 + 20 + 1 + 2 * side_room

-- The text stands in front, the tail is kept, and the answer is how long it is.
pub record Wrote (P : List ℕ → Type 0) (old : List ℕ) (r : Option ℕ) (new : List ℕ) : Type 0 where
  pub text : List ℕ
  pub prints : P text
  pub answer : r ≡ Some (length text)
  pub bytes : new ≡ text ++ drop (length text) old

-- A buffer with less room is left as it was.
pub record Left (old : List ℕ) (r : Option ℕ) (new : List ℕ) : Type 0 where
  pub answer : r ≡ None
  pub kept : new ≡ old

abbrev pub WritesIf : Bool → (List ℕ → Type 0) → List ℕ → Option ℕ → List ℕ → Type 0
WritesIf true P old r new = Left old r new
WritesIf false P old r new = Wrote P old r new

-- What a call leaves in the lent bytes, and what it answers, where P tells which text it is.
abbrev pub Writes : (List ℕ → Type 0) → List ℕ → Option ℕ → List ℕ → Type 0
Writes P old r new = WritesIf (ltb (length old) room) P old r new

-- A number past the largest book is refusal 2; failing that, the listing of the book that begins at the place reached.
abbrev pub Seen : Option (ℕ × Cursor) → List ℕ → ℕ → List ℕ → Type 0
Seen (Some (n, c)) s at text = text ≡ refused_text Counts
Seen None s at text = Lists (drop at s) text
