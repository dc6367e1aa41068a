-- If r = q/256 and e = d/256 for whole q and d, the ends of a good share's band are exact: low is (256 - d) * q * W / 65536, and high (256 + d) * q * W / 65536. Assumes nothing.
use mathlib.Core.Path.{sym, subst}
use Prim.Native.Nat.{ℕ, ◌+◌, ◌-◌, ◌*◌, ◌^◌, ◌≤◌, ◌<◌}
use native.Mathlib.Nat.{le_of_lt, lt_of_le_of_lt, le_trans, mul-le-mul}
use native.Mathlib.Omega.{arith}
use mathlib.Core.Bool.{false, ◌&&◌}
use lib.Dec.{T, lit<, lit≤}
use lib.Ieee.{Float, binary64, add, sub, mul, lt, le}
use lib.Ieee.Fits.{and_l, and_r}
use lib.Ieee.Exact.{HasValue}
use Rattle.gate.specs.Gates.{zero_f, one_f, dbl, good_share, share_low, share_high, Exactly}
use Rattle.gate.proofs.Rounds.{sub_is, add_is, mul_is}
use Rattle.gate.proofs.Exact.{exact_256, exact_65536, dbl_value, exactly, has_value, under_256}

-- ---- the products are below 2 ^ 53
two_small : (a q : ℕ) → a ≤ 2 ^ 9 → q ≤ 2 ^ 8 → a * q < 2 ^ 53
two_small a q A Q = lt_of_le_of_lt (mul-le-mul A Q) (lit< tt)

three_small : (a q w : ℕ) → a ≤ 2 ^ 9 → q ≤ 2 ^ 8 → w ≤ 2 ^ 32 → a * q * w < 2 ^ 53
three_small a q w A Q W = lt_of_le_of_lt (mul-le-mul (mul-le-mul A Q) W) (lit< tt)

wide : (w : ℕ) → w ≤ 2 ^ 32 → w ≤ 2 ^ 53
wide w h = le_trans h (lit≤ tt)

-- (a / 256 * r) * w, where the first factor is a double x that is a / 256
end : (x r : Float) (a q w : ℕ) → HasValue x false a 256 → HasValue r false q 256 → a ≤ 2 ^ 9 → q ≤ 2 ^ 8 → w ≤ 2 ^ 32
    → HasValue (mul binary64 (mul binary64 x r) (dbl w)) false (a * q * w) 65536
end x r a q w hx hr A Q W =
    let p = mul binary64 x r in
    let hp : HasValue p false (a * q) 65536 = subst (λ (z : Float). HasValue z false (a * q) 65536) (sym (mul_is binary64 x r a 256 q 256 (lit< tt) (lit< tt) hx hr)) (exact_65536 (a * q) (two_small a q A Q)) in
    subst (λ (z : Float). HasValue z false (a * q * w) 65536)
    (sym (mul_is binary64 p (dbl w) (a * q) 65536 w 1 (lit< tt) (lit< tt) hp (dbl_value w (wide w W))))
    (exact_65536 (a * q * w) (three_small a q w A Q W))

module _ (r e : Float) (q d w : ℕ) (good : T (good_share r e)) (R : Exactly r q 256) (E : Exactly e d 256) (W : w ≤ 2 ^ 32) where
  r_under : T (lt zero_f r && lt r one_f)
  r_under = and_l (lt zero_f r && lt r one_f) (le zero_f e) (and_l (lt zero_f r && lt r one_f && le zero_f e) (lt e one_f) good)

  r_value : HasValue r false q 256
  r_value = has_value r q 256 (and_l (lt zero_f r) (lt r one_f) r_under) R

  q_under : q < 256
  q_under = under_256 r q R (and_r (lt zero_f r) (lt r one_f) r_under)

  d_under : d < 256
  d_under = under_256 e d E (and_r (lt zero_f r && lt r one_f && le zero_f e) (lt e one_f) good)

  -- 65536 * low is exactly (256 - d) * q * W
  pub low_exact : Exactly (share_low r e w) ((256 - d) * q * w) 65536
  low_exact =
      exactly (share_low r e w) ((256 - d) * q * w) 65536
      (end (sub binary64 one_f e) r (256 - d) q w
      (subst (λ (z : Float). HasValue z false (256 - d) 256) (sym (sub_is e d E (le_of_lt d_under))) (exact_256 (256 - d) (omega arith)))
      r_value (omega arith) (le_of_lt q_under) W)

  -- and 65536 * high exactly (256 + d) * q * W
  pub high_exact : Exactly (share_high r e w) ((256 + d) * q * w) 65536
  high_exact =
      exactly (share_high r e w) ((256 + d) * q * w) 65536
      (end (add binary64 one_f e) r (256 + d) q w
      (subst (λ (z : Float). HasValue z false (256 + d) 256) (sym (add_is e d E (le_of_lt d_under))) (exact_256 (256 + d) (omega (arith, d_under))))
      r_value (omega (arith, d_under)) (le_of_lt q_under) W)
