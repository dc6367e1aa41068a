-- Two rows of bytes that hold the same modules, with spare bits 0 and the same bytes after, are one row. Assumes nothing.
use Rattle.std.specs.Prelude.{◌≡◌, ℕ, zero, suc, ◌+◌, ◌-◌, ◌*◌, ◌/◌, ◌%◌, ◌^◌, ◌<◌, ◌≤◌, Bool, true, false, not, T, eqb, leb, List, length, get_or, drop}
use mathlib.Core.Path.{refl, sym, ap, ◌∙◌}
use native.Mathlib.Nat.{div-one, pow-suc}
use native.Mathlib.Omega.{arith}
use lib.Dec.{leb→le, nleb→lt}
use lib.Pow.{shr-shr}
use lib.Seq.{ext_get_or, get_or-drop}
use Rattle.line.specs.Card.{Alike}
use Rattle.side.specs.Sides.{bit_at, side_of, bytes_for, Bytes, SpareClear}
use Rattle.side.proofs.Bits.{bit-lt, of_bit}
use Rattle.split.specs.Solved.{Row}

-- two numbers below 2 ^ w with the same bits are one
pub bits_one : (w a b : ℕ) → a < 2 ^ w → b < 2 ^ w → ((j : ℕ) → j < w → a / 2 ^ j % 2 ≡ b / 2 ^ j % 2) → a ≡ b
bits_one zero a b h k e = least a b h k
  where
    least : (a b : ℕ) → a < 1 → b < 1 → a ≡ b
    least a b h k = omega arith
bits_one (suc w) a b h k e =
    whole a b (bits_one w (a / 2) (b / 2) (half a (2 ^ w) (rw (pow-suc 2 w) at h)) (half b (2 ^ w) (rw (pow-suc 2 w) at k)) (λ j l. upper a j ∙ e (suc j) (under j l) ∙ sym (upper b j)))
    (sym (ap (λ (x : ℕ). x % 2) (div-one a)) ∙ e 0 (under₀ w) ∙ ap (λ (x : ℕ). x % 2) (div-one b))
  where
    whole : (a b : ℕ) → a / 2 ≡ b / 2 → a % 2 ≡ b % 2 → a ≡ b
    whole a b p q = omega arith

    half : (a t : ℕ) → a < t * 2 → a / 2 < t
    half a t h = omega arith

    under : (j : ℕ) → j < w → suc j < suc w
    under j l = omega arith

    under₀ : (w : ℕ) → 0 < suc w
    under₀ w = omega arith

    one_first : (j : ℕ) → 1 + j ≡ suc j
    one_first j = omega arith

    upper : (x j : ℕ) → x / 2 / 2 ^ j % 2 ≡ x / 2 ^ suc j % 2
    upper x j = ap (λ (y : ℕ). y % 2) (shr-shr x 1 j ∙ ap (λ (i : ℕ). x / 2 ^ i) (one_first j))

-- two bits are one where they say the same of a module
bit_one : (a b : ℕ) → a < 2 → b < 2 → eqb a 1 ≡ eqb b 1 → a ≡ b
bit_one a b h k =
    of_bit (λ a. eqb a 1 ≡ eqb b 1 → a ≡ b)
    (of_bit (λ b. eqb 0 1 ≡ eqb b 1 → 0 ≡ b) (λ e. refl) (λ e. let z : false ≡ true = e in cc) b k)
    (of_bit (λ b. eqb 1 1 ≡ eqb b 1 → 1 ≡ b) (λ e. let z : true ≡ false = e in cc) (λ e. refl) b k)
    a h

module _ (m : ℕ) (l k : List ℕ) (e : Alike m (side_of l) (side_of k)) (u : SpareClear l m) (v : SpareClear k m) where
  -- every bit of the bytes that m modules need
  same_bit : (i : ℕ) → i < bytes_for m * 8 → bit_at l i ≡ bit_at k i
  same_bit i h = go (leb m i) (leb→le m i) (nleb→lt m i)
    where
      go : (b : Bool) → (T b → m ≤ i) → (T (not b) → i < m) → bit_at l i ≡ bit_at k i
      go true f g = u i (f tt) h ∙ sym (v i (f tt) h)
      go false f g = bit_one (bit_at l i) (bit_at k i) (bit-lt _) (bit-lt _) (e i (g tt))

  -- and so every byte of them
  same_byte : Bytes l → Bytes k → (i : ℕ) → i < bytes_for m → get_or l i 0 ≡ get_or k i 0
  same_byte a b i h = bits_one 8 (get_or l i 0) (get_or k i 0) (a i) (b i) (λ j w. sym (at l j w) ∙ same_bit (i * 8 + j) (omega arith) ∙ at k j w)
    where
      its : (j : ℕ) → j < 8 → (i * 8 + j) / 8 ≡ i
      its j w = omega arith

      bit : (j : ℕ) → j < 8 → (i * 8 + j) % 8 ≡ j
      bit j w = omega arith

      at : (l : List ℕ) (j : ℕ) → j < 8 → bit_at l (i * 8 + j) ≡ get_or l i 0 / 2 ^ j % 2
      at l j w = rw (its j w, bit j w)

  pub rows_one : Bytes l → Bytes k → length l ≡ length k → drop (bytes_for m) l ≡ drop (bytes_for m) k → l ≡ k
  rows_one a b n t = ext_get_or 0 l k n (λ i h. go i (leb (bytes_for m) i) (leb→le (bytes_for m) i) (nleb→lt (bytes_for m) i))
    where
      go : (i : ℕ) (d : Bool) → (T d → bytes_for m ≤ i) → (T (not d) → i < bytes_for m) → get_or l i 0 ≡ get_or k i 0
      go i true f g =
          let w : bytes_for m + (i - bytes_for m) ≡ i = omega (arith, f tt) in
          ap (λ (x : ℕ). get_or l x 0) (sym w) ∙ sym (get_or-drop (bytes_for m) l (i - bytes_for m) 0) ∙ ap (λ (r : List ℕ). get_or r (i - bytes_for m) 0) t
          ∙ get_or-drop (bytes_for m) k (i - bytes_for m) 0 ∙ ap (λ (x : ℕ). get_or k x 0) w
      go i false f g = same_byte a b i (g tt)

-- two rows written over an old one
pub row_one : (m : ℕ) (old l k : List ℕ) → Row m old l → Row m old k → Bytes l → Bytes k → Alike m (side_of l) (side_of k) → l ≡ k
row_one m old l k p q a b e = rows_one m l k e p.spare q.spare a b (p.long ∙ sym q.long) (p.tail ∙ sym q.tail)
