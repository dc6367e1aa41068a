-- A row of bits whose spare bits are 0 is the bytes of its side (`side_over`), and what the last round came to is what the call answers (`finish_by`). Assumes nothing.
use Rattle.std.specs.Prelude.{◌≡◌, ℕ, zero, suc, ◌+◌, ◌*◌, ◌/◌, ◌%◌, ◌^◌, ◌<◌, ◌≤◌, Bool, true, false, cond, ◌&&◌, eqb, ltb, List, ◌++◌, length, get_or, take, drop, Result}
use mathlib.Core.Path.{refl, sym, ap, ap₂, ◌∙◌}
use native.Mathlib.Nat.{div-one, pow-zero, pow-succ', div-div-eq-div-mul}
use native.Mathlib.Numerals.{add-one}
use native.Mathlib.Omega.{arith}
use lib.Seq.{ext_get_or, length-take-le, get_or-take}
use borrow.Author.Tests.{eqb-true, eqb-false, ltb-false}
use Rattle.line.specs.Card.{area_to}
use Rattle.book.specs.Format.{modules, area}
use Rattle.book.proofs.Elements.{length_listed, get_or_listed}
use Rattle.side.specs.Sides.{side_of, bytes_for, SpareClear}
use Rattle.walk.specs.declared.Done.{Done}
use Rattle.walk.specs.declared.NotDone.{NotDone}
use Rattle.walk.specs.declared.Standing.{Standing}
use Rattle.walk.specs.Walk.{Turn}
use Rattle.walk.specs.Call.{binary, side_byte, side_bytes, over, side_after}
use Rattle.walk.specs.Runs.{outcome_at}
use Rattle.walk.specs.Answer.{answered_at, Finished}

-- ---- bits and bytes

-- a number of n bits looks at those alone
binary_same : (n : ℕ) (a b : ℕ → Bool) → ((j : ℕ) → j < n → a j ≡ b j) → binary a n ≡ binary b n
unfolding binary
binary_same zero a b e = refl
binary_same (suc n) a b e = ap₂ (λ (d : Bool) (k : ℕ). cond d 1 0 + 2 * k) (e 0 (omega arith)) (binary_same n (λ j. a (suc j)) (λ j. b (suc j)) (λ j l. e (suc j) (omega arith)))

low_bit : (b : ℕ) → cond (eqb (b % 2) 1) 1 0 ≡ b % 2
low_bit b = go (eqb (b % 2) 1) (eqb-true (b % 2) 1) (eqb-false (b % 2) 1)
  where
    go : (d : Bool) → (d ≡ true → b % 2 ≡ 1) → (d ≡ false → b % 2 ≡ 1 → ⊥) → cond d 1 0 ≡ b % 2
    go true f g = sym (f refl)
    go false f g = let n = g refl in omega (arith, n)

-- the number that its bits make
binary_bits : (n b : ℕ) → b < 2 ^ n → binary (λ j. eqb (b / 2 ^ j % 2) 1) n ≡ b
unfolding binary
binary_bits zero b h = omega (arith, pow-zero 2)
binary_bits (suc n) b h =
    let p : 2 ^ suc n ≡ 2 * 2 ^ n = pow-succ' 2 n in
    let half : b / 2 < 2 ^ n = omega (arith, p) in
    let next : (j : ℕ) → b / 2 ^ suc j ≡ b / 2 / 2 ^ j = λ j. ap (λ (d : ℕ). b / d) (pow-succ' 2 j) ∙ sym (div-div-eq-div-mul b 2 (2 ^ j)) in
    let rest : binary (λ j. eqb (b / 2 ^ suc j % 2) 1) n ≡ b / 2 = (λ t. binary (λ j. eqb (next j t % 2) 1) n) ∙ binary_bits n (b / 2) half in
    let low : cond (eqb (b / 2 ^ 0 % 2) 1) 1 0 ≡ b % 2 = ap (λ (d : ℕ). cond (eqb (d % 2) 1) 1 0) (div-one b) ∙ low_bit b in
    omega (arith, low, rest)

module _ (n : ℕ) (x : List ℕ) (small : (i : ℕ) → get_or x i 0 < 256) (enough : bytes_for n ≤ length x) (spare : SpareClear x n) where
  -- a bit of byte i, where the spare ones are 0
  bit : (i j : ℕ) → i < bytes_for n → j < 8 → (ltb (8 * i + j) n && side_of x (8 * i + j)) ≡ eqb (get_or x i 0 / 2 ^ j % 2) 1
  bit i j l u = go (ltb (8 * i + j) n) refl
    where
      here : side_of x (8 * i + j) ≡ eqb (get_or x i 0 / 2 ^ j % 2) 1
      here =
          let d : (8 * i + j) / 8 ≡ i = omega arith in
          let m : (8 * i + j) % 8 ≡ j = omega arith in
          ap₂ (λ (a b : ℕ). eqb (get_or x a 0 / 2 ^ b % 2) 1) d m

      go : (b : Bool) → ltb (8 * i + j) n ≡ b → (b && side_of x (8 * i + j)) ≡ eqb (get_or x i 0 / 2 ^ j % 2) 1
      go true e = here
      go false e = sym (ap (λ (b : ℕ). eqb b 1) (spare (8 * i + j) (ltb-false (8 * i + j) n e) (omega arith))) ∙ here

  byte : (i : ℕ) → i < bytes_for n → side_byte (side_of x) n i ≡ get_or x i 0
  byte i l =
      binary_same 8 (λ j. ltb (8 * i + j) n && side_of x (8 * i + j)) (λ j. eqb (get_or x i 0 / 2 ^ j % 2) 1) (λ j u. bit i j l u) ∙ binary_bits 8 (get_or x i 0) (small i)

  pub side_row : take (bytes_for n) x ≡ side_bytes (side_of x) n
  side_row =
      let t = length-take-le (bytes_for n) x enough in
      ext_get_or 0 (take (bytes_for n) x) (side_bytes (side_of x) n) (t ∙ sym (length_listed (side_byte (side_of x) n) (bytes_for n)))
      (λ i u.
      let l : i < bytes_for n = omega (arith, u, t) in
      get_or-take (bytes_for n) x i 0 l ∙ sym (byte i l) ∙ sym (get_or_listed (side_byte (side_of x) n) (bytes_for n) i 0 l))

  -- written over the front of a buffer
  pub side_over : (k : ℕ) (old new : List ℕ) → k ≡ n → new ≡ take ((k + 7) / 8) x → new ++ drop ((k + 7) / 8) old ≡ over (side_bytes (side_of x) n) old
  side_over k old new e f =
      let b : (k + 7) / 8 ≡ bytes_for n = ap bytes_for e in
      let w : new ≡ side_bytes (side_of x) n = f ∙ ap (λ (i : ℕ). take i x) b ∙ side_row in
      ap₂ (λ (l : List ℕ) (i : ℕ). l ++ drop i old) w (b ∙ sym (length_listed (side_byte (side_of x) n) (bytes_for n)))

-- ---- the total area

pub area_none : (s : List ℕ) → 0 ≡ area_to (area s) (λ m. true) 0
unfolding area_to
area_none s = refl

pub area_more : (s : List ℕ) (m sum a : ℕ) → sum ≡ area_to (area s) (λ m. true) m → a ≡ area s m → sum + a ≡ area_to (area s) (λ m. true) (m + 1)
unfolding area_to
area_more s m sum a e f = rw (add-one m) (ap₂ (λ (p q : ℕ). p + q) e f)

-- ---- the answer

module _ (s : List ℕ) (w : Standing) (old new : List ℕ) (r : Result Done NotDone) (t : Turn) (e : w.row.turn ≡ t) where
  pub finish_by : new ≡ side_after (modules s) (outcome_at t (side_of w.x)) old → r ≡ answered_at t w.row.price w.rounds → Finished s w old new r
  finish_by f g = record {
    side = f ∙ ap (λ (t : Turn). side_after (modules s) (outcome_at t (side_of w.x)) old) (sym e);
    answer = g ∙ ap (λ (t : Turn). answered_at t w.row.price w.rounds) (sym e);
  }
