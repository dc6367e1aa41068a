-- Signed numbers as they are read, tested and shifted: while they are within a weight of 0 nothing wraps. Assumes nothing.
use mathlib.Core.Path.{◌≡◌, refl, sym, ap₂, ◌∙◌, subst}
use mathlib.Core.Bool.{Bool, true, false}
use Prim.Native.Nat.{ℕ, ◌≤◌, ◌<◌, ◌^◌}
use native.Mathlib.Omega.{arith}
use lib.IntN.{ℤ, pos, negsuc, neg_ℤ, ◌+ℤ◌}
use lib.Dec.{T, ltb, ltb→lt, lt→ltb}
use lib.Signed.{mag}
use mir.Syntax.{w32}
use mir.Val.{to_z, of_z, hbits, SFits}
use Rattle.line.proofs.Push.{more_sent, more_taken, less_sent, less_taken}
use Rattle.flow.specs.Cards.{Small}
use mir.Facts.{to_z-of_z}
use Rattle.line.specs.Flow.{sent, taken}
use Rattle.flow.specs.Search.{or, gives, way_from}

-- ---- a signed element that was read: its bits, read back, are itself

pub read_back : (z : ℤ) → mag z < 2 ^ hbits w32 → to_z w32 (of_z w32 z) ≡ z
read_back z g = to_z-of_z {w = w32} {z = z} (record { sfits = g })

true_of : (b : Bool) → T b → b ≡ true
true_of true t = refl
true_of false t = absurd t

pub true_above : (n : ℕ) → 0 < n → ltb 0 n ≡ true
true_above n h = true_of (ltb 0 n) (lt→ltb 0 n h)

-- what a test on a number that was read says
pub read_sends : (all bk : Bool) (f : ℤ) → mag f < 2 ^ hbits w32 → or all (ltb 0 (gives bk (to_z w32 (of_z w32 f)))) ≡ or all (ltb 0 (gives bk f))
read_sends all bk f g = rw (read_back f g)

pub read_from : (bk : Bool) (f : ℤ) (a b : ℕ) → mag f < 2 ^ hbits w32 → way_from (ltb 0 (gives bk (to_z w32 (of_z w32 f)))) a b ≡ way_from (ltb 0 (gives bk f)) a b
read_from bk f a b g = rw (read_back f g)

pub above_true : (n : ℕ) → ltb 0 n ≡ true → 0 < n
above_true n e = ltb→lt 0 n (subst T (sym e) tt)

-- ---- signed numbers within a weight of 0

sum_small : (z : ℤ) → sent z < 2147483648 → taken z < 2147483648 → SFits w32 z
sum_small (pos n) p q = record { sfits = p }
sum_small (negsuc n) p q = record { sfits = let h : n < 2147483648 = omega arith in h }

pub plus_fits : (z : ℤ) (d : ℕ) → Small z → d ≤ 65535 → SFits w32 (z +ℤ pos d)
plus_fits z d s l = let x = s.sent in let y = s.taken in sum_small (z +ℤ pos d) (omega (arith, more_sent z d)) (omega (arith, more_taken z d))

pub minus_fits : (z : ℤ) (d : ℕ) → Small z → d ≤ 65535 → SFits w32 (z +ℤ neg_ℤ (pos d))
minus_fits z d s l = let x = s.sent in let y = s.taken in sum_small (z +ℤ neg_ℤ (pos d)) (omega (arith, less_sent z d)) (omega (arith, less_taken z d))

pos_fits : (d : ℕ) → d ≤ 65535 → SFits w32 (pos d)
pos_fits d l = record { sfits = let q : d < 2147483648 = omega arith in q }

-- what a sum and a difference compute

d_back : (d : ℕ) → d ≤ 65535 → to_z w32 d ≡ pos d
d_back d l = to_z-of_z {w = w32} {z = pos d} (pos_fits d l)

pub shift_is : (g : ℤ → ℤ) (f : ℤ) (d : ℕ) → SFits w32 f → d ≤ 65535 → SFits w32 (f +ℤ g (pos d)) → to_z w32 (of_z w32 (to_z w32 (of_z w32 f) +ℤ g (to_z w32 d))) ≡ f +ℤ g (pos d)
shift_is g f d h l k =
    ap₂ (λ (y z : ℤ). to_z w32 (of_z w32 (y +ℤ g z))) (to_z-of_z {w = w32} {z = f} h) (d_back d l) ∙ to_z-of_z {w = w32} {z = f +ℤ g (pos d)} k
