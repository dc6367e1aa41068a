-- The gate of the balancing walk, in the words of document 01. Every number here is a double, by the logic's account of IEEE 754 (`lib.Ieee`). This page holds definitions only.
use Rattle.std.specs.Prelude.{ℕ, ◌*◌, ◌≡◌, Bool, true, false, cond, ◌&&◌, pos, Float}
use Rattle.std.specs.Float.{nan, inf, fin, binary64}
use Rattle.std.specs.Float.Ieee.{up, down, add, sub, mul, lt, le, of_int}
use Rattle.gate.specs.declared.Gate.{Gate}
use Rattle.gate.specs.declared.Gate.TheVariants.{Open, Share, Bounds}
use Rattle.gate.specs.declared.Band.{Band}
use Rattle.gate.specs.declared.Verdict.{Verdict}
use Rattle.gate.specs.declared.Verdict.TheVariants.{Below, Within, Above}

-- 0, 1 and 16777216, which is 2 ^ 24.
abbrev pub zero_f : Float
zero_f = fin false 0 (pos 0)

abbrev pub one_f : Float
one_f = fin false 1 (pos 0)

abbrev pub top_f : Float
top_f = fin false 1 (pos 24)

-- W and an area become doubles.
abbrev pub dbl : ℕ → Float
dbl n = of_int binary64 (pos n)

-- A double is exactly a / c, for a c above 0: it is finite, has a sign at most where it is zero, and c times its size is a. The size of `fin s m e` is m * up e / down e.
abbrev pub Exactly : Float → ℕ → ℕ → Type 0
Exactly nan a c = ⊥
Exactly (inf s) a c = ⊥
Exactly (fin s m e) a c = (s ≡ true → m ≡ 0) × (m * up e * c ≡ a * down e)

-- Share carries r and e as doubles, with 0 < r < 1 and 0 <= e < 1.
abbrev pub good_share : Float → Float → Bool
good_share r e = lt zero_f r && lt r one_f && le zero_f e && lt e one_f

-- Bounds carries low and high, with 0 <= low <= high <= 16777216.
abbrev pub good_bounds : Float → Float → Bool
good_bounds low high = le zero_f low && le low high && le high top_f

-- Anything else, not-a-number included, is refusal 7.
abbrev pub good_gate : Gate → Bool
good_gate Open = true
good_gate (Share r e) = good_share r e
good_gate (Bounds low high) = good_bounds low high

-- With total area W, a share gives low = ((1 - e) * r) * W, each operation rounded once, in the order written.
abbrev pub share_low : Float → Float → ℕ → Float
share_low r e w = mul binary64 (mul binary64 (sub binary64 one_f e) r) (dbl w)

-- And high = ((1 + e) * r) * W.
abbrev pub share_high : Float → Float → ℕ → Float
share_high r e w = mul binary64 (mul binary64 (add binary64 one_f e) r) (dbl w)

-- For two bounds or a share the worked-out gate is a pair of doubles, low and high. An open gate has none; here it gets the widest, 0 to the top.
abbrev pub band_of : Gate → ℕ → Band
band_of Open w = record { low = zero_f; high = top_f }
band_of (Share r e) w = record { low = share_low r e w; high = share_high r e w }
band_of (Bounds low high) w = record { low = low; high = high }

-- An area within low and high, ends included; below low; above high.
abbrev pub band_says : Band → ℕ → Verdict
band_says b a = cond (le b.low (dbl a) && le (dbl a) b.high) Within (cond (lt (dbl a) b.low) Below Above)

-- What a gate says of an area, with total area W; an open gate, that it is within.
abbrev pub gate_says : Gate → ℕ → ℕ → Verdict
gate_says Open w a = Within
gate_says (Share r e) w a = band_says (band_of (Share r e) w) a
gate_says (Bounds low high) w a = band_says (band_of (Bounds low high) w) a
