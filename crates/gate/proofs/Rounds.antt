-- 1 - e, 1 + e and a product of two values that are not negative are each one rounding of a fraction. Assumes nothing.
use mathlib.Core.Path.{◌≡◌, refl, sym, ap, ◌∙◌}
use Prim.Native.Nat.{ℕ, ◌+◌, ◌-◌, ◌*◌, ◌≤◌, ◌<◌}
use native.Mathlib.Nat.{not-le_of_lt, one-mul, zero-mul, add-mul, mul-pos, mul-mul-mul_comm, eq_of_mul-eq-mul_right}
use native.Mathlib.Omega.{arith}
use mathlib.Core.Bool.{Bool, true, false, cond, true≢false}
use lib.IntN.{ℤ}
use lib.Dec.{T, ltb, ltb→lt, lit<}
use lib.Ieee.{Float, nan, inf, fin, Format, binary64, up, down, round, sum, add, sub, mul}
use lib.Ieee.Fits.{down_pos}
use lib.Ieee.Exact.{HasValue}
use lib.Ieee.Scale.{round_same}
use lib.Ieee.Positive.{num, den, den_pos, value→cross}
use Rattle.gate.specs.Gates.{one_f, Exactly}

-- ---- the two sums
pub plus : (f : Format) (a b c : ℕ) → sum f false a false b c ≡ round f false (a + b) c
unfolding sum
plus f a b c = refl

pub less : (f : Format) (a b c : ℕ) → b ≤ a → sum f false a true b c ≡ round f false (a - b) c
unfolding sum
less f a b c h = go (ltb a b) (ltb→lt a b)
  where
    go : (t : Bool) → (T t → a < b) → cond t (round f true (b - a) c) (round f false (a - b) c) ≡ round f false (a - b) c
    go true k = absurd (not-le_of_lt (k tt) h)
    go false k = refl

-- ---- 1 - e and 1 + e, with e = fin s n d, as sums of fractions over 1 * down d
pub sub_one : (n : ℕ) (d : ℤ) → sub binary64 one_f (fin false n d) ≡ sum binary64 false (1 * down d) true (n * up d * 1) (1 * down d)
unfolding sub
sub_one n d = refl

pub sub-neg : (n : ℕ) (d : ℤ) → sub binary64 one_f (fin true n d) ≡ sum binary64 false (1 * down d) false (n * up d * 1) (1 * down d)
unfolding sub
sub-neg n d = refl

pub add-one : (s : Bool) (n : ℕ) (d : ℤ) → add binary64 one_f (fin s n d) ≡ sum binary64 false (1 * down d) s (n * up d * 1) (1 * down d)
unfolding add
add-one s n d = refl

-- u / v is D / 256
module _ (u v D : ℕ) (h : u * 256 ≡ D * v) where
  sums : (1 * v + u * 1) * 256 ≡ (256 + D) * (1 * v)
  sums =
      let x : (256 + D) * (1 * v) ≡ 256 * v + D * v = ap (λ (z : ℕ). (256 + D) * z) (one-mul v) ∙ add-mul 256 D v in
      omega arith

  module _ (l : D ≤ 256) where
    split : (256 - D) * (1 * v) + D * v ≡ 256 * v
    split =
        let y : 256 - D + D ≡ 256 = omega arith in
        ap (λ (z : ℕ). (256 - D) * z + D * v) (one-mul v) ∙ sym (add-mul (256 - D) D v) ∙ ap (λ (z : ℕ). z * v) y

    differences : (1 * v - u * 1) * 256 ≡ (256 - D) * (1 * v)
    differences = omega (arith, split)

    under : u * 1 ≤ 1 * v
    under = omega (arith, split)

-- a size of zero is D = 0
pub no_size : (n D : ℕ) (d : ℤ) → n ≡ 0 → n * up d * 256 ≡ D * down d → D ≡ 0
no_size n D d z h =
    let x : n * up d * 256 ≡ 0 = ap (λ (k : ℕ). k * up d * 256) z ∙ ap (λ (k : ℕ). k * 256) (zero-mul (up d)) in
    eq_of_mul-eq-mul_right (down d) (down_pos d) D 0 (sym h ∙ x ∙ sym (zero-mul (down d)))

pub sub_is : (e : Float) (D : ℕ) → Exactly e D 256 → D ≤ 256 → sub binary64 one_f e ≡ round binary64 false (256 - D) 256
sub_is nan D h l = absurd h
sub_is (inf s) D h l = absurd h
sub_is (fin false n d) D h l =
    sub_one n d
    ∙ less binary64 (1 * down d) (n * up d * 1) (1 * down d) (under (n * up d) (down d) D h.1 l)
    ∙ round_same binary64 false (1 * down d - n * up d * 1) (1 * down d) (256 - D) 256 (mul-pos (lit< tt) (down_pos d)) (lit< tt)
    (differences (n * up d) (down d) D h.1 l)
sub_is (fin true n d) D h l =
    let z : D ≡ 0 = no_size n D d (h.0 refl) h.1 in
    let both : 256 + D ≡ 256 - D = omega arith in
    sub-neg n d
    ∙ plus binary64 (1 * down d) (n * up d * 1) (1 * down d)
    ∙ round_same binary64 false (1 * down d + n * up d * 1) (1 * down d) (256 - D) 256 (mul-pos (lit< tt) (down_pos d)) (lit< tt)
    (sums (n * up d) (down d) D h.1 ∙ ap (λ (k : ℕ). k * (1 * down d)) both)

pub add_is : (e : Float) (D : ℕ) → Exactly e D 256 → D ≤ 256 → add binary64 one_f e ≡ round binary64 false (256 + D) 256
add_is nan D h l = absurd h
add_is (inf s) D h l = absurd h
add_is (fin false n d) D h l =
    add-one false n d
    ∙ plus binary64 (1 * down d) (n * up d * 1) (1 * down d)
    ∙ round_same binary64 false (1 * down d + n * up d * 1) (1 * down d) (256 + D) 256 (mul-pos (lit< tt) (down_pos d)) (lit< tt)
    (sums (n * up d) (down d) D h.1)
add_is (fin true n d) D h l =
    let z : D ≡ 0 = no_size n D d (h.0 refl) h.1 in
    let both : 256 - D ≡ 256 + D = omega arith in
    add-one true n d
    ∙ less binary64 (1 * down d) (n * up d * 1) (1 * down d) (under (n * up d) (down d) D h.1 l)
    ∙ round_same binary64 false (1 * down d - n * up d * 1) (1 * down d) (256 + D) 256 (mul-pos (lit< tt) (down_pos d)) (lit< tt)
    (differences (n * up d) (down d) D h.1 l ∙ ap (λ (k : ℕ). k * (1 * down d)) both)

-- ---- a product, by any fractions that the factors equal; a factor may be zero
pub product : (f : Format) (x y : Float) (a c b d : ℕ) → HasValue x false a c → HasValue y false b d → mul f x y ≡ round f false (num x * num y) (den x * den y)
unfolding mul
product f nan y a c b d h k = absurd h
product f (inf s) y a c b d h k = absurd h
product f (fin true m e) y a c b d h k = absurd (true≢false h.0)
product f (fin false m e) nan a c b d h k = absurd k
product f (fin false m e) (inf t) a c b d h k = absurd k
product f (fin false m e) (fin true n g) a c b d h k = absurd (true≢false k.0)
product f (fin false m e) (fin false n g) a c b d h k = refl

pub mul_is : (f : Format) (x y : Float) (a c b d : ℕ) → 0 < c → 0 < d → HasValue x false a c → HasValue y false b d → mul f x y ≡ round f false (a * b) (c * d)
mul_is f x y a c b d C D h k =
    product f x y a c b d h k
    ∙ round_same f false (num x * num y) (den x * den y) (a * b) (c * d) (mul-pos (den_pos x) (den_pos y)) (mul-pos C D)
    (mul-mul-mul_comm (num x) (num y) c d ∙ ap (λ (z : ℕ). z * (num y * d)) (value→cross x a c h) ∙ ap (λ (z : ℕ). a * den x * z) (value→cross y b d k) ∙ mul-mul-mul_comm a (den x) b (den y))
