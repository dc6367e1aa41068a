-- The largest book: over its last byte there is a step exactly where more bytes came in (`seen_prints`), and no book that reads is larger (`reads_small`). So what came in is refused for its size, is refused by the reader, or is a book with a split (`over_prints`, `refused_prints`, `read_prints`).
-- Assumes nothing.
use Rattle.std.specs.Prelude.{Option, Ok, Err}
use Prim.Native.Nat.{ℕ, ◌+◌, ◌-◌, ◌≤◌, ◌<◌}
use mathlib.Core.Path.{◌≡◌, refl}
use mathlib.Core.Bool.{Bool, true, false}
use mathlib.Core.List.{List}
use native.Mathlib.Omega.{arith}
use borrow.Author.Tests.{leb-true, leb-false, ltb-true, ltb-false, lt-ltb, le-ltb}
use lib.Dec.{leb, ltb}
use lib.ListN.{length}
use Rattle.book.specs.Format.{u16, laid}
use Rattle.book.specs.Checks.{read_of}
use Rattle.book.specs.Steps.{step_if, step_by}
use Rattle.book.specs.declared.Book.{Book}
use Rattle.book.specs.declared.Refusal.{Refusal}
use Rattle.book.specs.declared.Refusal.TheVariants.{Counts}
use Rattle.book.proofs.Laid.{contents}
use Rattle.book.proofs.Sound.{sound}
use Rattle.view.specs.Text.{refused_text}
use Rattle.view.specs.Listing.{largest_book, room, Splits, Lists, Seen, Prints, PrintsIf, WritesIf, Writes}

-- one text for another
writes_by : {P Q : List ℕ → Type 0} (old : List ℕ) (r : Option ℕ) (new : List ℕ) → ((t : List ℕ) → P t → Q t) → Writes P old r new → Writes Q old r new
writes_by {P} {Q} old r new f = go (ltb (length old) room)
  where
    go : (b : Bool) → WritesIf b P old r new → WritesIf b Q old r new
    go true w = w
    go false w = record { text = w.text; prints = f w.text w.prints; answer = w.answer; bytes = w.bytes }

pub seen_prints : (s old : List ℕ) (r : Option ℕ) (new : List ℕ) → Writes (Seen (step_by 2 u16 s (largest_book - 1)) s 0) old r new → Writes (Prints s) old r new
unfolding step_by
seen_prints s old r new = writes_by old r new (λ t. go t (leb (largest_book - 1 + 2) (length s)) (ltb largest_book (length s)) refl refl)
  where
    go : (t : List ℕ) (b c : Bool) → leb (largest_book - 1 + 2) (length s) ≡ b → ltb largest_book (length s) ≡ c →
        Seen (step_if b (u16 s (largest_book - 1)) (largest_book - 1 + 2)) s 0 t → PrintsIf c s t
    go t true true d e p = p
    go t true false d e p = absurd (omega (arith, leb-true (largest_book - 1 + 2) (length s) d, ltb-false largest_book (length s) e))
    go t false true d e p = absurd (omega (arith, leb-false (largest_book - 1 + 2) (length s) d, ltb-true largest_book (length s) e))
    go t false false d e p = p

-- a book that reads is laid
reads_laid : (s : List ℕ) (b : Book) → read_of s ≡ Ok b → laid s ≡ true
unfolding read_of
reads_laid s b e = go (laid s) refl
  where
    go : (t : Bool) → laid s ≡ t → t ≡ true
    go true h = refl
    go false h = let k = rw h at e in let z : ◌≡◌ {A = ℕ} 0 1 = cc in absurd (omega arith)

pub reads_small : (s : List ℕ) (b : Book) → read_of s ≡ Ok b → length s ≤ largest_book
reads_small s b e =
    let h = sound s b e in
    let l = h.laid_out in
    omega
    (arith, (contents s (reads_laid s b e)).end, h.few_modules, h.few_nets, h.few_pins, l.modules_whole, l.nets_whole, l.pins_whole)

-- ---- what is printed, case by case

module _ (s text : List ℕ) where
  pub over_prints : largest_book < length s → Prints s text → text ≡ refused_text Counts
  over_prints l p = rw (lt-ltb largest_book (length s) l) at p

  small : length s ≤ largest_book → Prints s text → Lists s text
  small l p = rw (le-ltb largest_book (length s) l) at p

  pub refused_prints : (why : Refusal) → length s ≤ largest_book → read_of s ≡ Err why → Prints s text → text ≡ refused_text why
  refused_prints why l e p = rw e at (small l p)

  pub read_prints : (b : Book) → read_of s ≡ Ok b → Prints s text → Splits s text
  read_prints b e p = rw e at (small (reads_small s b e) p)
