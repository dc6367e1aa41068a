-- The test of a side's spare bits says that they are 0, and only then passes. Assumes nothing.
use mathlib.Core.Path.{◌≡◌, sym, ap, ◌∙◌, subst}
use mathlib.Core.Logic.{◌⊎◌, inl, inr}
use mathlib.Core.List.{List}
use Prim.Native.Nat.{ℕ, zero, suc, ◌+◌, ◌-◌, ◌*◌, ◌/◌, ◌%◌, ◌^◌, ◌≤◌, ◌<◌}
use native.Mathlib.Nat.{lt_of_lt_of_le, div-eq_of_lt, div-lt_iff_lt-mul, pow-succ', one-mul}
use native.Mathlib.Decide.{ℕ_discrete}
use native.Mathlib.Omega.{arith}
use lib.Dec.{T, eqb, eqb→eq}
use lib.Pow.{pow_pos, pow_mono}
use lib.ListN.{get_or}
use lib.Ieee.Fits.{eq→eqb}
use Rattle.side.specs.Sides.{bit_in, SpareClear, spare_test}
use Rattle.line.proofs.Bools.{or_split, or_l, or_r}

-- x / 2 ^ j is 0 exactly where x is below 2 ^ j
below : (x j : ℕ) → x / 2 ^ j ≡ 0 → x < 2 ^ j
below x j e = subst (λ (k : ℕ). x < k) (one-mul (2 ^ j)) ((div-lt_iff_lt-mul {k = 2 ^ j} {x = x} {y = 1} (pow_pos j)).0 (least (x / 2 ^ j) e))
  where
    least : (a : ℕ) → a ≡ 0 → a < 1
    least a e = omega arith

-- no bit from j on
high_bit : (x i j : ℕ) → x < 2 ^ j → j ≤ i → x / 2 ^ i % 2 ≡ 0
high_bit x i j h k = ap (λ (y : ℕ). y % 2) (div-eq_of_lt (lt_of_lt_of_le h (pow_mono k)))

-- if the bits from j up to j + d are 0, what is below 2 ^ (j + d) is below 2 ^ j
sunk : (x j d : ℕ) → x < 2 ^ (d + j) → ((i : ℕ) → j ≤ i → i < d + j → x / 2 ^ i % 2 ≡ 0) → x < 2 ^ j
sunk x j zero h c = subst (λ (k : ℕ). x < 2 ^ k) (plain j) h
  where
    plain : (j : ℕ) → 0 + j ≡ j
    plain j = omega arith
sunk x j (suc d) h c = sunk x j d (below x (d + j) (gone (x / 2 ^ (d + j)) (c (d + j) (from d j) (one_more d j)) two)) (λ i a b. c i a (later i d j b))
  where
    from : (d j : ℕ) → j ≤ d + j
    from d j = omega arith

    one_more : (d j : ℕ) → d + j < suc d + j
    one_more d j = omega arith

    later : (i d j : ℕ) → i < d + j → i < suc d + j
    later i d j h = omega arith

    is_suc : (d j : ℕ) → suc d + j ≡ suc (d + j)
    is_suc d j = omega arith

    gone : (a : ℕ) → a % 2 ≡ 0 → a < 2 → a ≡ 0
    gone a e h = omega arith

    two : x / 2 ^ (d + j) < 2
    two = (div-lt_iff_lt-mul {k = 2 ^ (d + j)} {x = x} {y = 2} (pow_pos (d + j))).1 (subst (λ (k : ℕ). x < k) (ap (λ (k : ℕ). 2 ^ k) (is_suc d j) ∙ pow-succ' 2 (d + j)) h)

-- ---- the test, and what it tests
pub test_tells : (l : List ℕ) (m : ℕ) → T (spare_test l m) → SpareClear l m
test_tells l m t k a b = go (or_split (eqb (m % 8) 0) (eqb (get_or l (m / 8) 0 / 2 ^ (m % 8)) 0) t)
  where
    none : (m k : ℕ) → m % 8 ≡ 0 → m ≤ k → k < (m + 7) / 8 * 8 → ⊥
    none m k e a b = omega arith

    same_byte : (m k : ℕ) → m ≤ k → k < (m + 7) / 8 * 8 → k / 8 ≡ m / 8
    same_byte m k a b = omega arith

    later_bit : (m k : ℕ) → m ≤ k → k / 8 ≡ m / 8 → m % 8 ≤ k % 8
    later_bit m k a e = omega arith

    go : T (eqb (m % 8) 0) ⊎ T (eqb (get_or l (m / 8) 0 / 2 ^ (m % 8)) 0) → bit_in 8 l k ≡ 0
    go (inl u) = absurd (none m k (eqb→eq (m % 8) 0 u) a b)
    go (inr u) =
        let e = same_byte m k a b in
        ap (λ (y : ℕ). get_or l y 0 / 2 ^ (k % 8) % 2) e
        ∙ high_bit (get_or l (m / 8) 0) (k % 8) (m % 8) (below (get_or l (m / 8) 0) (m % 8) (eqb→eq (get_or l (m / 8) 0 / 2 ^ (m % 8)) 0 u)) (later_bit m k a e)

pub test_passes : (l : List ℕ) (m : ℕ) → get_or l (m / 8) 0 < 256 → SpareClear l m → T (spare_test l m)
test_passes l m h c = go (ℕ_discrete (m % 8) 0)
  where
    x : ℕ
    x = get_or l (m / 8) 0

    low_end : (m i : ℕ) → m % 8 ≤ i → m ≤ m / 8 * 8 + i
    low_end m i h = omega arith

    high_end : (m i : ℕ) → i < 8 → (m % 8 ≡ 0 → ⊥) → m / 8 * 8 + i < (m + 7) / 8 * 8
    high_end m i h n = omega arith

    byte : (m i : ℕ) → i < 8 → (m / 8 * 8 + i) / 8 ≡ m / 8
    byte m i h = omega arith

    bit : (m i : ℕ) → i < 8 → (m / 8 * 8 + i) % 8 ≡ i
    bit m i h = omega arith

    all : (m : ℕ) → 8 - m % 8 + m % 8 ≡ 8
    all m = omega arith

    clear : (m % 8 ≡ 0 → ⊥) → (i : ℕ) → m % 8 ≤ i → i < 8 - m % 8 + m % 8 → x / 2 ^ i % 2 ≡ 0
    clear n i a b =
        let b' : i < 8 = subst (λ (k : ℕ). i < k) (all m) b in
        sym (ap (λ (y : ℕ). get_or l y 0 / 2 ^ i % 2) (byte m i b'))
        ∙ sym (ap (λ (y : ℕ). get_or l ((m / 8 * 8 + i) / 8) 0 / 2 ^ y % 2) (bit m i b'))
        ∙ c (m / 8 * 8 + i) (low_end m i a) (high_end m i b' n)

    go : Dec (m % 8 ≡ 0) → T (spare_test l m)
    go (yes e) = or_l (eqb (m % 8) 0) (eqb (x / 2 ^ (m % 8)) 0) (eq→eqb e)
    go (no n) =
        or_r (eqb (m % 8) 0) (eqb (x / 2 ^ (m % 8)) 0)
        (eq→eqb (div-eq_of_lt (sunk x (m % 8) (8 - m % 8) (subst (λ (k : ℕ). x < 2 ^ k) (sym (all m)) h) (clear n))))
