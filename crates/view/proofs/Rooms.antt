-- No text is longer than its room: a number of 64 bits has at most 20 digits, and the line of a module at most 5 bytes. Assumes nothing.
use Prim.Native.Nat.{ℕ, zero, suc, ◌+◌, ◌*◌, ◌^◌, ◌≤◌, ◌<◌}
use mathlib.Core.Path.{◌≡◌, refl, ap}
use mathlib.Core.Bool.{Bool, true, false}
use mathlib.Core.List.{List, ◌++◌}
use native.Mathlib.Nat.{lt_of_lt_of_le}
use native.Mathlib.Omega.{arith}
use lib.Dec.{lit≤}
use lib.ListN.{length, length-append}
use Rattle.line.specs.Card.{Side}
use Rattle.view.specs.Text.{bytes, decimal, module_line, module_lines, pair_line}
use Rattle.view.proofs.Decimals.{decimal_most}
use Rattle.view.proofs.Lines.{pair_long, line_off, line_long}

decimal_room : (n : ℕ) → n < 2 ^ 64 → length (decimal n) ≤ 20
decimal_room n l = decimal_most 19 n (lt_of_lt_of_le l (lit≤ tt))

pair_room : (first : List ℕ) (n : ℕ) (second : List ℕ) (k : ℕ) → n < 2 ^ 64 → k < 2 ^ 64 → length (pair_line first n second k) ≤ length first + 20 + length second + 20 + 1
pair_room first n second k a b =
    omega
    (arith, pair_long first n second k, length-append first (decimal n), length-append second (decimal k), decimal_room n a, decimal_room k b)

pub header_room : (name : List ℕ) (n k : ℕ) → length name ≤ 5 → n < 2 ^ 64 → k < 2 ^ 64 → length (pair_line name n (bytes " modules area ") k) ≤ 60
unfolding bytes
header_room name n k l a b = omega (arith, l, pair_room name n (bytes " modules area ") k a b)

pub refusal_room : (n k : ℕ) → n < 2 ^ 64 → k < 2 ^ 64 → length (pair_line (bytes "refused ") n (bytes " at ") k) ≤ 53
unfolding bytes
refusal_room n k a b = omega (arith, pair_room (bytes "refused ") n (bytes " at ") k a b)

pub price_room : (n : ℕ) → n < 2 ^ 64 → length (bytes "price " ++ decimal n) ≤ 26
unfolding bytes
price_room n l = omega (arith, length-append (bytes "price ") (decimal n), decimal_room n l)

line_room : (x : Side) (m : ℕ) → m < 10000 → length (module_line x m) ≤ 5
line_room x m l = go (x m) refl
  where
    go : (b : Bool) → x m ≡ b → length (module_line x m) ≤ 5
    go true e = omega (arith, line_long x m e, decimal_most 3 m l)
    go false e = omega (arith, ap length (line_off x m e))

pub lines_room : (x : Side) (n : ℕ) → n ≤ 10000 → length (module_lines x n) ≤ 5 * n
unfolding module_lines
lines_room x zero l = omega arith
lines_room x (suc n) l = omega (arith, length-append (module_lines x n) (module_line x n), line_room x n (omega arith), lines_room x n (omega arith))
