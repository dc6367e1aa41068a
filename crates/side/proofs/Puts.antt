-- The side with module m put on it holds m, the side with m taken off does not, and both hold every other module as before; spare bits stay 0. Assumes nothing.
use mathlib.Core.Path.{◌≡◌, refl, sym, ap, ◌∙◌}
use mathlib.Core.List.{List}
use mathlib.Core.Bool.{Bool, true, false, not, cond, ◌&&◌, ◌||◌}
use Prim.Native.Nat.{ℕ, ◌-◌, ◌/◌, ◌%◌, ◌^◌, ◌<◌}
use native.Mathlib.Decide.{ℕ_discrete}
use native.Mathlib.Omega.{arith}
use lib.Dec.{eqb}
use lib.Bits.{bit_and, bit_or, and_shr, and_mod, and_zero_r, or_shr, or_mod, or_zero_r}
use lib.ListN.{get_or, length, set}
use lib.Seq.{get_or-set_same, get_or-set_other}
use borrow.Author.Tests.{eq-eqb, ne_eqb}
use Rattle.line.specs.Flow.{only}
use Rattle.side.specs.Sides.{bit_at, side_of, SpareClear, with_bit, without_bit}
use Rattle.side.proofs.Bits.{bit-lt, of_bit, power_bit, mask_bit}

-- ---- bit j of x | 2 ^ i, and of x & (255 - 2 ^ i)

or_bit : (x i j : ℕ) → bit_or x (2 ^ i) / 2 ^ j % 2 ≡ bit_or (x / 2 ^ j % 2) (cond (eqb i j) 1 0)
or_bit x i j = ap (λ (k : ℕ). k % 2) (or_shr x (2 ^ i) j) ∙ or_mod (x / 2 ^ j) (2 ^ i / 2 ^ j) 1 ∙ ap (bit_or (x / 2 ^ j % 2)) (power_bit i j)

set_bit : (x i : ℕ) → bit_or x (2 ^ i) / 2 ^ i % 2 ≡ 1
set_bit x i =
    or_bit x i i ∙ ap (λ (t : Bool). bit_or (x / 2 ^ i % 2) (cond t 1 0)) (eq-eqb i i refl)
    ∙ of_bit (λ b. bit_or b 1 ≡ 1) refl refl (x / 2 ^ i % 2) (bit-lt (x / 2 ^ i))

or_other : (x i j : ℕ) → (i ≡ j → ⊥) → bit_or x (2 ^ i) / 2 ^ j % 2 ≡ x / 2 ^ j % 2
or_other x i j n = or_bit x i j ∙ ap (λ (t : Bool). bit_or (x / 2 ^ j % 2) (cond t 1 0)) (ne_eqb i j n) ∙ or_zero_r (x / 2 ^ j % 2)

and_bit : (x i j : ℕ) → i < 8 → j < 8 → bit_and x (255 - 2 ^ i) / 2 ^ j % 2 ≡ bit_and (x / 2 ^ j % 2) (cond (eqb i j) 0 1)
and_bit x i j h l =
    ap (λ (k : ℕ). k % 2) (and_shr x (255 - 2 ^ i) j) ∙ and_mod (x / 2 ^ j) ((255 - 2 ^ i) / 2 ^ j) 1 ∙ ap (bit_and (x / 2 ^ j % 2)) (mask_bit i j h l)

clear_bit : (x i : ℕ) → i < 8 → bit_and x (255 - 2 ^ i) / 2 ^ i % 2 ≡ 0
clear_bit x i h = and_bit x i i h h ∙ ap (λ (t : Bool). bit_and (x / 2 ^ i % 2) (cond t 0 1)) (eq-eqb i i refl) ∙ and_zero_r (x / 2 ^ i % 2)

and_other : (x i j : ℕ) → i < 8 → j < 8 → (i ≡ j → ⊥) → bit_and x (255 - 2 ^ i) / 2 ^ j % 2 ≡ x / 2 ^ j % 2
and_other x i j h l n =
    and_bit x i j h l ∙ ap (λ (t : Bool). bit_and (x / 2 ^ j % 2) (cond t 0 1)) (ne_eqb i j n)
    ∙ of_bit (λ b. bit_and b 1 ≡ b) refl refl (x / 2 ^ j % 2) (bit-lt (x / 2 ^ j))

module _ (l : List ℕ) (m : ℕ) (h : m / 8 < length l) where
  -- ---- the byte of module m replaced by v

  here : (v k : ℕ) → k / 8 ≡ m / 8 → bit_at (set l (m / 8) v) k ≡ v / 2 ^ (k % 8) % 2
  here v k e = ap (λ (b : ℕ). get_or (set l (m / 8) v) b 0 / 2 ^ (k % 8) % 2) e ∙ ap (λ (y : ℕ). y / 2 ^ (k % 8) % 2) (get_or-set_same l (m / 8) v 0 h)

  elsewhere : (v : ℕ) → ((j : ℕ) → j < 8 → (m % 8 ≡ j → ⊥) → v / 2 ^ j % 2 ≡ get_or l (m / 8) 0 / 2 ^ j % 2) → (k : ℕ) → (k ≡ m → ⊥) →
      bit_at (set l (m / 8) v) k ≡ bit_at l k
  elsewhere v same k n = go (ℕ_discrete (k / 8) (m / 8))
    where
      apart : (k : ℕ) → k / 8 ≡ m / 8 → m % 8 ≡ k % 8 → k ≡ m
      apart k e f = omega arith

      go : Dec (k / 8 ≡ m / 8) → bit_at (set l (m / 8) v) k ≡ bit_at l k
      go (no a) = ap (λ (y : ℕ). y / 2 ^ (k % 8) % 2) (get_or-set_other l (m / 8) (k / 8) v 0 a)
      go (yes e) = here v k e ∙ same (k % 8) (omega arith) (λ f. n (apart k e f)) ∙ sym (ap (λ (b : ℕ). get_or l b 0 / 2 ^ (k % 8) % 2) e)

  -- ---- as bits

  pub put_on : bit_at (with_bit l m) m ≡ 1
  put_on = here _ m refl ∙ set_bit (get_or l (m / 8) 0) (m % 8)

  pub put_others : (k : ℕ) → (k ≡ m → ⊥) → bit_at (with_bit l m) k ≡ bit_at l k
  put_others = elsewhere _ (λ j _ n. or_other (get_or l (m / 8) 0) (m % 8) j n)

  pub taken_off : bit_at (without_bit l m) m ≡ 0
  taken_off = here _ m refl ∙ clear_bit (get_or l (m / 8) 0) (m % 8) (omega arith)

  pub off_others : (k : ℕ) → (k ≡ m → ⊥) → bit_at (without_bit l m) k ≡ bit_at l k
  off_others = elsewhere _ (λ j u n. and_other (get_or l (m / 8) 0) (m % 8) j (omega arith) u n)

  -- ---- as sides

  pub put_side : (k : ℕ) → side_of (with_bit l m) k ≡ (side_of l k || only m k)
  put_side k = go (ℕ_discrete k m)
    where
      last : (a : Bool) → true ≡ (a || true)
      last true = refl
      last false = refl

      plain : (a : Bool) → a ≡ (a || false)
      plain true = refl
      plain false = refl

      go : Dec (k ≡ m) → side_of (with_bit l m) k ≡ (side_of l k || only m k)
      go (yes e) = rw (eq-eqb k m e, ap (bit_at (with_bit l m)) e ∙ put_on) (last (side_of l k))
      go (no n) = rw (ne_eqb k m n, put_others k n) (plain (side_of l k))

  pub off_side : (k : ℕ) → side_of (without_bit l m) k ≡ (side_of l k && not (only m k))
  off_side k = go (ℕ_discrete k m)
    where
      last : (a : Bool) → false ≡ (a && false)
      last true = refl
      last false = refl

      plain : (a : Bool) → a ≡ (a && true)
      plain true = refl
      plain false = refl

      go : Dec (k ≡ m) → side_of (without_bit l m) k ≡ (side_of l k && not (only m k))
      go (yes e) = rw (eq-eqb k m e, ap (bit_at (without_bit l m)) e ∙ taken_off) (last (side_of l k))
      go (no n) = rw (ne_eqb k m n, off_others k n) (plain (side_of l k))

  -- ---- spare bits

  module _ (n : ℕ) (u : m < n) (c : SpareClear l n) where
    pub put_clear : SpareClear (with_bit l m) n
    put_clear k a b = put_others k (λ e. absurd (omega arith)) ∙ c k a b

    pub off_clear : SpareClear (without_bit l m) n
    off_clear k a b = off_others k (λ e. absurd (omega arith)) ∙ c k a b
