-- The ones of a row of words are its set bits: a word at a time, and spare bits add nothing. Assumes nothing.
use mathlib.Core.Path.{◌≡◌, refl, sym, ap, ap₂, ◌∙◌}
use mathlib.Core.List.{List}
use Prim.Native.Nat.{ℕ, zero, suc, ◌+◌, ◌-◌, ◌*◌, ◌/◌, ◌%◌, ◌^◌, ◌≤◌, ◌<◌}
use native.Mathlib.Nat.{le_refl, le_of_lt, zero-lt-suc, zero-add, add-zero, add-suc, add_comm, add_assoc, suc-mul, mod-lt, mod-one, mod-eq_of_lt}
use native.Mathlib.Numerals.{add-one}
use native.Mathlib.Omega.{arith}
use lib.ListN.{get_or}
use lib.Arith.{digits_div, digits_mod}
use lib.Pow.{mod-pow-add, pow_pos}
use lib.Count.{ones, ones_cat}
use mathlib.Core.Bool.{cond}
use lib.Dec.{eqb}
use Rattle.line.specs.Card.{area_to, count_to}
use Rattle.side.specs.Sides.{bit_in, side_of, ClearFrom}
use Rattle.side.proofs.Bits.{bit-lt, of_bit}

-- how many of the bits below m of a row of words of w bits are 1
unfoldable pub count_in : ℕ → List ℕ → ℕ → ℕ
count_in w l zero = 0
count_in w l (suc m) = bit_in w l m + count_in w l m

-- ---- a digit counts itself
ones_bit : (r : ℕ) → r < 2 → ones r ≡ r
unfolding ones
ones_bit = of_bit (λ r. ones r ≡ r) refl refl

-- the ones among a number's j + 1 lowest digits: its digit j, and those among its j lowest
next_digit : (x j : ℕ) → ones (x % 2 ^ suc j) ≡ x / 2 ^ j % 2 + ones (x % 2 ^ j)
next_digit x j =
    ap (λ (k : ℕ). ones (x % 2 ^ k)) (sym (add-one j) ∙ add_comm j 1)
    ∙ ap ones (mod-pow-add x 1 j)
    ∙ ones_cat j (x / 2 ^ j % 2) (x % 2 ^ j) (mod-lt x (pow_pos j))
    ∙ ap (λ (k : ℕ). k + ones (x % 2 ^ j)) (ones_bit (x / 2 ^ j % 2) (bit-lt (x / 2 ^ j)))

-- ---- a word of w bits at a time
module _ (w : ℕ) (l : List ℕ) where
  bit_in_word : (k j : ℕ) → j < w → bit_in w l (k * w + j) ≡ get_or l k 0 / 2 ^ j % 2
  bit_in_word k j h = ap₂ (λ (a b : ℕ). get_or l a 0 / 2 ^ b % 2) (digits_div k h) (digits_mod k h)

  upto : (k j : ℕ) → j ≤ w → count_in w l (k * w + j) ≡ ones (get_or l k 0 % 2 ^ j) + count_in w l (k * w)
  unfolding count_in
  upto k zero h =
      ap (count_in w l) (add-zero (k * w))
      ∙ sym (zero-add (count_in w l (k * w)))
      ∙ ap (λ (a : ℕ). a + count_in w l (k * w)) (sym (ones_bit 0 (zero-lt-suc 1)) ∙ ap ones (sym (mod-one (get_or l k 0))))
  upto k (suc j) h =
      let x = get_or l k 0 in
      ap (count_in w l) (add-suc (k * w) j)
      ∙ ap₂ (λ (a b : ℕ). a + b) (bit_in_word k j h) (upto k j (le_of_lt h))
      ∙ sym (add_assoc (x / 2 ^ j % 2) (ones (x % 2 ^ j)) (count_in w l (k * w)))
      ∙ ap (λ (a : ℕ). a + count_in w l (k * w)) (sym (next_digit x j))

  pub next_word : (k : ℕ) → get_or l k 0 < 2 ^ w → count_in w l ((k + 1) * w) ≡ count_in w l (k * w) + ones (get_or l k 0)
  next_word k h =
      ap (λ (a : ℕ). count_in w l (a * w)) (add-one k)
      ∙ ap (count_in w l) (suc-mul k w)
      ∙ upto k w (le_refl w)
      ∙ ap (λ (a : ℕ). ones a + count_in w l (k * w)) (mod-eq_of_lt h)
      ∙ add_comm (ones (get_or l k 0)) (count_in w l (k * w))

  -- ---- no more than all of them
  pub count-le : (m : ℕ) → count_in w l m ≤ m
  unfolding count_in
  count-le zero = le_refl 0
  count-le (suc m) = more (bit_in w l m) (count_in w l m) m (bit-lt (get_or l (m / w) 0 / 2 ^ (m % w))) (count-le m)
    where
      more : (a b m : ℕ) → a < 2 → b ≤ m → a + b ≤ suc m
      more a b m h k = omega arith

  -- ---- spare bits add nothing
  grown : (m n d : ℕ) → ClearFrom w l m n → m + d ≤ n * w → count_in w l (m + d) ≡ count_in w l m
  unfolding count_in
  grown m n zero s h = ap (count_in w l) (add-zero m)
  grown m n (suc d) s h =
      ap (count_in w l) (add-suc m d)
      ∙ ap₂ (λ (a b : ℕ). a + b) (s (m + d) (from m d) (under m d (n * w) h)) (grown m n d s (le_of_lt (under m d (n * w) h)))
      ∙ zero-add (count_in w l m)
    where
      from : (m d : ℕ) → m ≤ m + d
      from m d = omega arith

      under : (m d c : ℕ) → m + suc d ≤ c → m + d < c
      under m d c h = omega arith

  pub spare_adds_nothing : (m n : ℕ) → ClearFrom w l m n → m ≤ n * w → count_in w l (n * w) ≡ count_in w l m
  spare_adds_nothing m n s h = ap (count_in w l) (whole m (n * w) h) ∙ grown m n (n * w - m) s (fits m (n * w) h)
    where
      whole : (m c : ℕ) → m ≤ c → c ≡ m + (c - m)
      whole m c h = omega arith

      fits : (m c : ℕ) → m ≤ c → m + (c - m) ≤ c
      fits m c h = omega arith

-- ---- the set bits of bytes are the modules on the side
bit_counts : (b : ℕ) → b < 2 → cond (eqb b 1) 1 0 ≡ b
bit_counts = of_bit (λ b. cond (eqb b 1) 1 0 ≡ b) refl refl

pub bits_inside : (l : List ℕ) (m : ℕ) → count_in 8 l m ≡ count_to (side_of l) m
unfolding count_in area_to
bits_inside l zero = refl
bits_inside l (suc m) = omega (arith, bits_inside l m, bit_counts (bit_in 8 l m) (bit-lt (get_or l (m / 8) 0 / 2 ^ (m % 8))))
