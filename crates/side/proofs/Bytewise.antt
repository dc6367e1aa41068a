-- Two sides taken byte by byte: `and` of their bytes is what is on both, `or` what is on either; both fit the book again, and together they cost no more.
-- Assumes nothing.
use Rattle.std.specs.Prelude.{Ok}
use Prim.Native.Nat.{ℕ, zero, suc, ◌+◌, ◌/◌, ◌%◌, ◌^◌, ◌≤◌, ◌<◌}
use mathlib.Core.Path.{◌≡◌, refl, sym, ap, ap₂, ◌∙◌}
use mathlib.Core.Bool.{Bool, true, false, ◌&&◌, ◌||◌}
use mathlib.Core.List.{List, [], ◌∷◌}
use native.Mathlib.Nat.{not-suc-le-zero, le_of_suc-le-suc}
use native.Mathlib.Omega.{arith}
use lib.Bits.{bit_and, bit_or, and_shr, or_shr, and_mod, or_mod, and_lt, or_lt}
use lib.Dec.{eqb}
use lib.ListN.{length, get_or}
use Rattle.line.specs.Card.{Side, both, either, Separates, Alike, price}
use Rattle.line.proofs.Bools.{and_mk, or_l, not_and_l, not_or_mk}
use Rattle.line.proofs.Price.{submodular}
use Rattle.book.specs.Format.{modules}
use Rattle.book.specs.Sound.{Sound}
use Rattle.book.specs.Cards.{nets_of, card_of}
use Rattle.book.proofs.Sound.{sound}
use Rattle.side.specs.Sides.{bit_at, side_of, bytes_for, Bytes, SpareClear, bytewise, and_of, or_of}
use Rattle.side.specs.Given.{Fits}
use Rattle.side.specs.Prices.{priced}
use Rattle.side.proofs.Alike.{alike_price, alike_separates}
use Rattle.side.proofs.Bits.{bit-lt, of_bit}
use Rattle.side.proofs.Prices.{price_tells, price_answers}

-- ---- a row of bytes, byte by byte

module _ (f : ℕ → ℕ → ℕ) where
  byte_of : (l k : List ℕ) (i : ℕ) → i < length l → i < length k → get_or (bytewise f l k) i 0 ≡ f (get_or l i 0) (get_or k i 0)
  unfolding bytewise
  byte_of [] k i h g = absurd (not-suc-le-zero h)
  byte_of (a ∷ l) [] i h g = absurd (not-suc-le-zero g)
  byte_of (a ∷ l) (b ∷ k) zero h g = refl
  byte_of (a ∷ l) (b ∷ k) (suc i) h g = byte_of l k i (le_of_suc-le-suc h) (le_of_suc-le-suc g)

  long : (l k : List ℕ) (n : ℕ) → n ≤ length l → n ≤ length k → n ≤ length (bytewise f l k)
  unfolding bytewise
  long l k zero h g = omega arith
  long [] k (suc n) h g = absurd (not-suc-le-zero h)
  long (a ∷ l) [] (suc n) h g = absurd (not-suc-le-zero g)
  long (a ∷ l) (b ∷ k) (suc n) h g = omega (arith, long l k n (le_of_suc-le-suc h) (le_of_suc-le-suc g))

  bytes : ((a b : ℕ) → a < 256 → b < 256 → f a b < 256) → (l k : List ℕ) → Bytes l → Bytes k → Bytes (bytewise f l k)
  unfolding bytewise
  bytes g [] k p q i = omega arith
  bytes g (a ∷ l) [] p q i = omega arith
  bytes g (a ∷ l) (b ∷ k) p q zero = g a b (p 0) (q 0)
  bytes g (a ∷ l) (b ∷ k) p q (suc i) = bytes g l k (λ j. p (suc j)) (λ j. q (suc j)) i

-- ---- a bit of it: f is `and` or `or`, and t the same of tests

module _ (f : ℕ → ℕ → ℕ) (t : Bool → Bool → Bool)
    (shr : (a b j : ℕ) → f a b / 2 ^ j ≡ f (a / 2 ^ j) (b / 2 ^ j))
    (low : (a b j : ℕ) → f a b % 2 ^ j ≡ f (a % 2 ^ j) (b % 2 ^ j))
    (tests : (a b : ℕ) → a < 2 → b < 2 → eqb (f a b) 1 ≡ t (eqb a 1) (eqb b 1))
    (none : f 0 0 ≡ 0) where
  bit : (l k : List ℕ) (m : ℕ) → m / 8 < length l → m / 8 < length k → bit_at (bytewise f l k) m ≡ f (bit_at l m) (bit_at k m)
  bit l k m h g =
      ap (λ (b : ℕ). b / 2 ^ (m % 8) % 2) (byte_of f l k (m / 8) h g)
      ∙ ap (λ (b : ℕ). b % 2) (shr (get_or l (m / 8) 0) (get_or k (m / 8) 0) (m % 8))
      ∙ low (get_or l (m / 8) 0 / 2 ^ (m % 8)) (get_or k (m / 8) 0 / 2 ^ (m % 8)) 1

  -- the side that it is
  joins : (n : ℕ) (l k : List ℕ) → bytes_for n ≤ length l → bytes_for n ≤ length k → Alike n (λ m. t (side_of l m) (side_of k m)) (side_of (bytewise f l k))
  joins n l k h g m i =
      sym
      (ap (λ (b : ℕ). eqb b 1) (bit l k m (omega arith) (omega arith))
      ∙ tests (bit_at l m) (bit_at k m) (bit-lt (get_or l (m / 8) 0 / 2 ^ (m % 8))) (bit-lt (get_or k (m / 8) 0 / 2 ^ (m % 8))))

  spare : (n : ℕ) (l k : List ℕ) → bytes_for n ≤ length l → bytes_for n ≤ length k → SpareClear l n → SpareClear k n → SpareClear (bytewise f l k) n
  spare n l k h g p q m a b = bit l k m (omega arith) (omega arith) ∙ ap₂ f (p m a b) (q m a b) ∙ none

  fits : (s l k : List ℕ) → Fits s l → Fits s k → Separates (card_of s) (λ m. t (side_of l m) (side_of k m)) → Fits s (bytewise f l k)
  fits s l k p q parts = record {
    enough = long f l k (bytes_for (modules s)) p.enough q.enough;
    separates =
        alike_separates s (λ m. t (side_of l m) (side_of k m)) (side_of (bytewise f l k)) (joins (modules s) l k p.enough q.enough) parts;
    spare = spare (modules s) l k p.enough q.enough p.spare q.spare;
  }

-- ---- the two

and_tests : (a b : ℕ) → a < 2 → b < 2 → eqb (bit_and a b) 1 ≡ (eqb a 1 && eqb b 1)
and_tests a b h g = of_bit (λ a. eqb (bit_and a b) 1 ≡ (eqb a 1 && eqb b 1)) (of_bit (λ b. eqb (bit_and 0 b) 1 ≡ false) refl refl b g) (of_bit (λ b. eqb (bit_and 1 b) 1 ≡ eqb b 1) refl refl b g) a h

or_tests : (a b : ℕ) → a < 2 → b < 2 → eqb (bit_or a b) 1 ≡ (eqb a 1 || eqb b 1)
or_tests a b h g = of_bit (λ a. eqb (bit_or a b) 1 ≡ (eqb a 1 || eqb b 1)) (of_bit (λ b. eqb (bit_or 0 b) 1 ≡ eqb b 1) refl refl b g) (of_bit (λ b. eqb (bit_or 1 b) 1 ≡ true) refl refl b g) a h

module _ (s l k : List ℕ) (p : Fits s l) (q : Fits s k) where
  abbrev x : Side
  x = side_of l

  abbrev y : Side
  y = side_of k

  is_both : Alike (modules s) (both x y) (side_of (and_of l k))
  is_both = joins bit_and (λ a b. a && b) and_shr and_mod and_tests refl (modules s) l k p.enough q.enough

  is_either : Alike (modules s) (either x y) (side_of (or_of l k))
  is_either = joins bit_or (λ a b. a || b) or_shr or_mod or_tests refl (modules s) l k p.enough q.enough

  -- both separate again, and their spare bits are clear again
  pub and_fits : Fits s (and_of l k)
  and_fits = fits bit_and (λ a b. a && b) and_shr and_mod and_tests refl s l k p q (record {
    meters = λ m i e. and_mk (x m) (y m) (p.separates.meters m i e) (q.separates.meters m i e);
    makers = λ m i e. not_and_l (x m) (y m) (p.separates.makers m i e);
  })

  pub or_fits : Fits s (or_of l k)
  or_fits = fits bit_or (λ a b. a || b) or_shr or_mod or_tests refl s l k p q (record {
    meters = λ m i e. or_l (x m) (y m) (p.separates.meters m i e);
    makers = λ m i e. not_or_mk (x m) (y m) (p.separates.makers m i e) (q.separates.makers m i e);
  })

  -- what is on both and what is on either together cost no more than the two sides
  pub bytes_submodular : Sound s → price (nets_of s) (side_of (and_of l k)) + price (nets_of s) (side_of (or_of l k)) ≤ price (nets_of s) (side_of l) + price (nets_of s) (side_of k)
  bytes_submodular h =
      omega (arith, submodular (nets_of s) x y, alike_price s (both x y) (side_of (and_of l k)) is_both h, alike_price s (either x y) (side_of (or_of l k)) is_either h)

-- the same of the call's answers
pub record Joined (s l k : List ℕ) (p q : ℕ) : Type 0 where
  pub inner : ℕ
  pub outer : ℕ
  pub inner_is : priced s (and_of l k) ≡ Ok inner
  pub outer_is : priced s (or_of l k) ≡ Ok outer
  pub no_more : inner + outer ≤ p + q

pub price_submodular : (s l k : List ℕ) (p q : ℕ) → Bytes l → Bytes k → priced s l ≡ Ok p → priced s k ≡ Ok q → Joined s l k p q
price_submodular s l k p q f g e h =
    let a = price_tells s l p e in
    let b = price_tells s k q h in
    let r = a.reads in
    record {
      inner = price (nets_of s) (side_of (and_of l k));
      outer = price (nets_of s) (side_of (or_of l k));
      inner_is = price_answers s (and_of l k) (bytes bit_and (and_lt 8) l k f g) r (and_fits s l k a.fits b.fits);
      outer_is = price_answers s (or_of l k) (bytes bit_or (or_lt 8) l k f g) r (or_fits s l k a.fits b.fits);
      no_more = omega (arith, a.is, b.is, bytes_submodular s l k a.fits b.fits (sound s r.0 r.1));
    }
