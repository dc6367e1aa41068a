-- A bit is 0 or 1; the bits of a power of two, and of a byte less one. Assumes nothing.
use mathlib.Core.Path.{◌≡◌, refl, sym, ap, ◌∙◌}
use mathlib.Core.Bool.{Bool, cond}
use Prim.Native.Nat.{ℕ, zero, suc, ◌+◌, ◌-◌, ◌/◌, ◌%◌, ◌^◌, ◌<◌}
use native.Mathlib.Nat.{zero-lt-suc, div-one, div-eq_of_lt, pow-suc, mul-mod_left}
use native.Mathlib.Omega.{arith}
use lib.Dec.{eqb, eqb-zero-suc, eqb-suc-zero, eqb-suc-suc}
use lib.Pow.{pow-lt, shr-shr, shl-shr}

pub bit-lt : (a : ℕ) → a % 2 < 2
bit-lt a = omega arith

-- what holds of 0 and of 1 holds of a bit, and what holds of 0 to 7 of a place in a byte
pub of_bit : (P : ℕ → Type 0) → P 0 → P 1 → (a : ℕ) → a < 2 → P a
of_bit P p q zero h = p
of_bit P p q (suc zero) h = q
of_bit P p q (suc (suc a)) h = absurd (omega arith)

of_place : (P : ℕ → Type 0) → P 0 → P 1 → P 2 → P 3 → P 4 → P 5 → P 6 → P 7 → (i : ℕ) → i < 8 → P i
of_place P a b c d e f g h zero l = a
of_place P a b c d e f g h (suc zero) l = b
of_place P a b c d e f g h (suc (suc zero)) l = c
of_place P a b c d e f g h (suc (suc (suc zero))) l = d
of_place P a b c d e f g h (suc (suc (suc (suc zero)))) l = e
of_place P a b c d e f g h (suc (suc (suc (suc (suc zero))))) l = f
of_place P a b c d e f g h (suc (suc (suc (suc (suc (suc zero)))))) l = g
of_place P a b c d e f g h (suc (suc (suc (suc (suc (suc (suc zero))))))) l = h
of_place P a b c d e f g h (suc (suc (suc (suc (suc (suc (suc (suc i)))))))) l = absurd (omega arith)

-- ---- bit j of 2 ^ i

one_over : (j : ℕ) → 1 / 2 ^ suc j % 2 ≡ 0
one_over j = ap (λ (x : ℕ). x % 2) (div-eq_of_lt (pow-lt {i = 0} {j = suc j} (zero-lt-suc j)))

even : (i : ℕ) → 2 ^ suc i / 1 % 2 ≡ 0
even i = ap (λ (x : ℕ). x % 2) (div-one (2 ^ suc i) ∙ pow-suc 2 i) ∙ mul-mod_left (2 ^ i) 2

both : (i j : ℕ) → 2 ^ suc i / 2 ^ suc j ≡ 2 ^ i / 2 ^ j
both i j =
    ap (λ (k : ℕ). 2 ^ suc i / 2 ^ k) (one_first j) ∙ sym (shr-shr (2 ^ suc i) 1 j)
    ∙ ap (λ (x : ℕ). x / 2 / 2 ^ j) (pow-suc 2 i) ∙ ap (λ (x : ℕ). x / 2 ^ j) (shl-shr (2 ^ i) 1)
  where
    one_first : (j : ℕ) → suc j ≡ 1 + j
    one_first j = omega arith

pub power_bit : (i j : ℕ) → 2 ^ i / 2 ^ j % 2 ≡ cond (eqb i j) 1 0
power_bit zero zero = refl
power_bit zero (suc j) = one_over j ∙ ap (λ (t : Bool). cond t 1 0) (sym (eqb-zero-suc j))
power_bit (suc i) zero = even i ∙ ap (λ (t : Bool). cond t 1 0) (sym (eqb-suc-zero i))
power_bit (suc i) (suc j) = ap (λ (x : ℕ). x % 2) (both i j) ∙ power_bit i j ∙ ap (λ (t : Bool). cond t 1 0) (sym (eqb-suc-suc i j))

-- ---- bit j of a byte of ones less 2 ^ i

abbrev Mask : ℕ → ℕ → Type 0
Mask i j = (255 - 2 ^ i) / 2 ^ j % 2 ≡ cond (eqb i j) 0 1

pub mask_bit : (i j : ℕ) → i < 8 → j < 8 → Mask i j
mask_bit i j h l =
    of_place (λ i. Mask i j)
    (of_place (Mask 0) refl refl refl refl refl refl refl refl j l)
    (of_place (Mask 1) refl refl refl refl refl refl refl refl j l)
    (of_place (Mask 2) refl refl refl refl refl refl refl refl j l)
    (of_place (Mask 3) refl refl refl refl refl refl refl refl j l)
    (of_place (Mask 4) refl refl refl refl refl refl refl refl j l)
    (of_place (Mask 5) refl refl refl refl refl refl refl refl j l)
    (of_place (Mask 6) refl refl refl refl refl refl refl refl j l)
    (of_place (Mask 7) refl refl refl refl refl refl refl refl j l)
    i h
