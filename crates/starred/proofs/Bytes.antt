-- The bytes of a side are a row of bits that holds it (`bytes_side`), and a row of bits written over a buffer is those bytes written over it (`row_over`). Assumes nothing.
use mathlib.Core.Path.{◌≡◌, refl, sym, ap, ◌∙◌}
use mathlib.Core.Bool.{Bool, true, false, cond, ◌&&◌}
use mathlib.Core.List.{List, ◌++◌}
use Prim.Native.Nat.{ℕ, zero, suc, ◌+◌, ◌*◌, ◌/◌, ◌%◌, ◌^◌, ◌≤◌, ◌<◌}
use native.Mathlib.Nat.{div-one, pow-succ', div-div-eq-div-mul}
use native.Mathlib.Omega.{arith}
use lib.Dec.{eqb, ltb}
use lib.ListN.{length, take, drop, take-append-drop}
use borrow.Author.Tests.{lt-ltb}
use Rattle.line.specs.Card.{Side, Alike}
use Rattle.book.proofs.Elements.{length_listed, get_or_listed}
use Rattle.side.specs.Sides.{side_of, bytes_for, Bytes}
use Rattle.split.specs.Solved.{Row}
use Rattle.walk.specs.Call.{binary, side_byte, side_bytes, over}
use Rattle.walk.proofs.Call.{side_bytes_same}
use Rattle.walk.proofs.Ended.{side_row}

-- the bits of a number that bits make
binary_bit : (n : ℕ) (a : ℕ → Bool) (j : ℕ) → j < n → binary a n / 2 ^ j % 2 ≡ cond (a j) 1 0
unfolding binary
binary_bit zero a j l = absurd (omega arith)
binary_bit (suc n) a zero l = ap (λ (x : ℕ). x % 2) (div-one (cond (a 0) 1 0 + 2 * binary (λ j. a (suc j)) n)) ∙ low (a 0) (binary (λ j. a (suc j)) n)
  where
    low : (b : Bool) (k : ℕ) → (cond b 1 0 + 2 * k) % 2 ≡ cond b 1 0
    low true k = omega arith
    low false k = omega arith
binary_bit (suc n) a (suc j) l =
    ap (λ (d : ℕ). x / d % 2) (pow-succ' 2 j) ∙ ap (λ (y : ℕ). y % 2) (sym (div-div-eq-div-mul x 2 (2 ^ j))) ∙ ap (λ (y : ℕ). y / 2 ^ j % 2) (half (a 0) (binary (λ j. a (suc j)) n))
    ∙ binary_bit n (λ j. a (suc j)) j (omega arith)
  where
    x : ℕ
    x = cond (a 0) 1 0 + 2 * binary (λ j. a (suc j)) n

    half : (b : Bool) (k : ℕ) → (cond b 1 0 + 2 * k) / 2 ≡ k
    half true k = omega arith
    half false k = omega arith

pub bytes_side : (x : Side) (n : ℕ) → Alike n (side_of (side_bytes x n)) x
bytes_side x n m l =
    ap (λ (b : ℕ). eqb (b / 2 ^ (m % 8) % 2) 1) (get_or_listed (side_byte x n) (bytes_for n) (m / 8) 0 (omega arith))
    ∙ ap (λ (b : ℕ). eqb b 1) (binary_bit 8 (λ j. ltb (8 * (m / 8) + j) n && x (8 * (m / 8) + j)) (m % 8) (omega arith))
    ∙ ap (λ (k : ℕ). eqb (cond (ltb k n && x k) 1 0) 1) here ∙ ap (λ (b : Bool). eqb (cond (b && x m) 1 0) 1) (lt-ltb m n l) ∙ one (x m)
  where
    here : 8 * (m / 8) + m % 8 ≡ m
    here = omega arith

    one : (b : Bool) → eqb (cond b 1 0) 1 ≡ b
    one true = refl
    one false = refl

pub row_over : (n : ℕ) (old new : List ℕ) (x : Side) → Bytes new → bytes_for n ≤ length old → Row n old new → Alike n (side_of new) x → new ≡ over (side_bytes x n) old
row_over n old new x b l r e =
    let front : take (bytes_for n) new ≡ side_bytes x n = side_row n new b (omega (arith, r.long)) r.spare ∙ side_bytes_same (side_of new) x n e in
    let k : length (side_bytes x n) ≡ bytes_for n = length_listed (side_byte x n) (bytes_for n) in
    sym (take-append-drop (bytes_for n) new) ∙ ap (λ (f : List ℕ). f ++ drop (bytes_for n) new) front ∙ ap (λ (t : List ℕ). side_bytes x n ++ t) r.tail
    ∙ ap (λ (i : ℕ). side_bytes x n ++ drop i old) (sym k)
