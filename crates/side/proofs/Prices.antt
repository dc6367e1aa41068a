-- Laws of the price call: its answer is one; it is a price exactly where the book reads and the side fits, and then the page's price; it refuses exactly when
-- document 01 says; and what lies beyond the needed bytes is not read. Assumes nothing.
use Rattle.std.specs.Prelude.{Result, Ok, Err, ⊤}
use Rattle.book.specs.declared.Book.{Book}
use Prim.Native.Nat.{ℕ}
use mathlib.Core.Path.{◌≡◌, refl, sym, ap, ap₂, ◌∙◌}
use mathlib.Core.List.{List}
use native.Mathlib.Omega.{arith}
use lib.ListN.{take}
use Rattle.line.specs.Card.{price}
use Rattle.book.specs.declared.Refusal.{Refusal}
use Rattle.book.specs.Format.{modules}
use Rattle.book.specs.Checks.{read_of}
use Rattle.book.specs.Cards.{nets_of}
use Rattle.book.proofs.Sound.{sound}
use Rattle.side.specs.Sides.{side_of, bytes_for, Bytes}
use Rattle.side.specs.Given.{Fits, Reads, Refuses}
use Rattle.side.specs.Given as page
use Rattle.side.specs.Prices.{price_after, priced}
use Rattle.side.proofs.Refusals.{given_tells, given_passes, given_refuses, refuses_given}
use Rattle.side.proofs.Unread.{one_side, one_given}
use Rattle.side.proofs.Alike.{alike_price}

-- any two answers that `price`'s contract allows are one
pub price_one : (s l : List ℕ) (r q : Result ℕ Refusal) → r ≡ priced s l → q ≡ priced s l → r ≡ q
price_one s l r q h k = h ∙ sym k

module _ (s l : List ℕ) where
  pub record Answered (p : ℕ) : Type 0 where
    pub reads : Reads s
    pub fits : Fits s l
    pub is : p ≡ price (nets_of s) (side_of l)

  answer : (p : ℕ) (g : Result ⊤ Refusal) → page.given s l ≡ g → price_after g (price (nets_of s) (side_of l)) ≡ Ok p → Answered p
  answer p (Ok tt) e h =
      let t = given_tells s l e in
      let q : price (nets_of s) (side_of l) ≡ p = cc in
      record { reads = t.0; fits = t.1; is = sym q }
  answer p (Err why) e h = let z : ◌≡◌ {A = ℕ} 0 1 = cc in absurd (omega arith)

  pub price_tells : (p : ℕ) → priced s l ≡ Ok p → Answered p
  unfolding priced
  price_tells p e = answer p (page.given s l) refl e

  refused : (why : Refusal) (g : Result ⊤ Refusal) (p : ℕ) → price_after g p ≡ Err why → g ≡ Err why
  refused why (Ok tt) p h = let z : ◌≡◌ {A = ℕ} 0 1 = cc in absurd (omega arith)
  refused why (Err w) p h = let u : w ≡ why = cc in ap Err u

  module _ (h : Bytes l) where
    pub price_answers : Reads s → Fits s l → priced s l ≡ Ok (price (nets_of s) (side_of l))
    unfolding priced
    price_answers r f = rw (given_passes s l h r f)

    pub price_refuses : (why : Refusal) → priced s l ≡ Err why → Refuses s l why
    unfolding priced
    price_refuses why e = given_refuses s l h why (refused why (page.given s l) (price (nets_of s) (side_of l)) e)

    pub refuses_price : {why : Refusal} → Refuses s l why → priced s l ≡ Err why
    unfolding priced
    refuses_price r = rw (refuses_given s l h r)

-- two sides that agree on the needed bytes get one answer
pub price_unread : (s l k : List ℕ) → take (bytes_for (modules s)) l ≡ take (bytes_for (modules s)) k → priced s l ≡ priced s k
unfolding priced page.given
price_unread s l k e = go (read_of s) refl
  where
    go : (r : Result Book Refusal) → read_of s ≡ r →
        price_after (page.after_read (read_of s) (page.given_sound s l)) (price (nets_of s) (side_of l)) ≡
        price_after (page.after_read (read_of s) (page.given_sound s k)) (price (nets_of s) (side_of k))
    go (Ok b) h = ap₂ price_after (one_given s l k e) (alike_price s (side_of l) (side_of k) (one_side s l k e) (sound s b h))
    go (Err why) h = rw h
