-- A rounding is exact where the number has few enough bits: whole numbers, 256ths and 65536ths below 2 ^ 53 of them. Assumes nothing.
use mathlib.Core.Path.{◌≡◌, refl, sym, ◌∙◌}
use Prim.Native.Nat.{ℕ, ◌*◌, ◌^◌, ◌≤◌, ◌<◌}
use native.Mathlib.Nat.{lt_of_lt_of_le, mul_assoc, lt_of_mul-lt-mul_right}
use native.Mathlib.Omega.{arith}
use mathlib.Core.Bool.{true, false, true≢false}
use lib.Dec.{T, ltb→lt, lit<, lit≤}
use lib.Pow.{pow_mono, shl_lt}
use lib.Ieee.{Float, nan, inf, fin, binary64, up, down, round, lt, of_int}
use lib.Ieee.Exact.{HasValue, round_exact}
use lib.Ieee.Back.{round_whole}
use Rattle.gate.specs.Gates.{zero_f, one_f, dbl, Exactly}
use Rattle.gate.proofs.Rounds.{no_size}

-- ---- a whole number of 256ths, or of 65536ths, below 2 ^ 53 of them, is a double
pub exact_256 : (n : ℕ) → n < 2 ^ 53 → HasValue (round binary64 false n 256) false n 256
exact_256 n h =
    round_exact binary64 false n 256 n 1066 (lit< tt) h (lt_of_lt_of_le (shl_lt 53 1066 h) (pow_mono {i = 1119} {j = 2098} (lit≤ tt)))
    (sym (mul_assoc n (2 ^ 1066) 256))

pub exact_65536 : (n : ℕ) → n < 2 ^ 53 → HasValue (round binary64 false n 65536) false n 65536
exact_65536 n h =
    round_exact binary64 false n 65536 n 1058 (lit< tt) h (lt_of_lt_of_le (shl_lt 53 1058 h) (pow_mono {i = 1111} {j = 2098} (lit≤ tt)))
    (sym (mul_assoc n (2 ^ 1058) 65536))

-- a whole number is a double
pub dbl_value : (n : ℕ) → n ≤ 2 ^ 53 → HasValue (dbl n) false n 1
unfolding of_int
dbl_value n h = round_whole binary64 false n h

-- ---- `HasValue` with no sign, and `Exactly`
pub exactly : (x : Float) (a c : ℕ) → HasValue x false a c → Exactly x a c
exactly nan a c h = h
exactly (inf s) a c h = h
exactly (fin s m e) a c h = ((λ t. absurd (true≢false (sym t ∙ h.0))), h.1)

-- above zero there is no sign
pub has_value : (x : Float) (a c : ℕ) → T (lt zero_f x) → Exactly x a c → HasValue x false a c
unfolding lt
has_value nan a c p h = h
has_value (inf s) a c p h = h
has_value (fin false m e) a c p h = (refl, h.1)
has_value (fin true m e) a c p h = absurd p

-- ---- a number of 256ths below 1 is below 256
pub under_256 : (x : Float) (a : ℕ) → Exactly x a 256 → T (lt x one_f) → a < 256
unfolding lt
under_256 nan a h t = absurd h
under_256 (inf s) a h t = absurd h
under_256 (fin true m e) a h t = let z : a ≡ 0 = no_size m a e (h.0 refl) h.1 in omega arith
under_256 (fin false m e) a h t = from (m * up e) (down e) h.1 (ltb→lt (m * up e * 1) (1 * down e) t)
  where
    from : (u v : ℕ) → u * 256 ≡ a * v → u * 1 < 1 * v → a < 256
    from u v h l = let k : a * v < 256 * v = omega arith in lt_of_mul-lt-mul_right v k
