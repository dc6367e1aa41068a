-- One more module of a side that is written from module 0 on. Assumes nothing.
use Rattle.std.specs.Prelude.{◌≡◌, ℕ, ◌+◌, ◌-◌, ◌/◌, ◌%◌, ◌^◌, ◌<◌, ◌≤◌, Bool, true, false, cond, eqb, List, length, get_or, drop, set}
use mathlib.Core.Path.{refl, sym, ap, ◌∙◌, subst}
use native.Mathlib.Omega.{arith}
use native.Mathlib.Decide.{ℕ_discrete}
use native.Mathlib.Nat.{zero-div}
use lib.ListN.{length-set}
use lib.Seq.{get_or-set_same, get_or-set_other, drop-set-lt, drop-drop}
use borrow.Author.Tests.{eqb-true, eqb-false}
use Rattle.side.specs.Sides.{bit_at, side_of, bytes_for, SpareClear, with_bit}
use Rattle.side.proofs.Puts.{put_on, put_others}
use Rattle.split.specs.Writes.{opened, wrote, picked_of, Written}

-- a row whose bits below m are those of l, and whose other bits up to the end of m's byte are 0
record Opens (m : ℕ) (l k : List ℕ) : Type 0 where
  long : length k ≡ length l
  below : (i : ℕ) → i < m → bit_at k i ≡ bit_at l i
  clear : (i : ℕ) → m ≤ i → i / 8 ≡ m / 8 → bit_at k i ≡ 0
  tail : drop (m / 8 + 1) k ≡ drop (m / 8 + 1) l

zero_bit : (j : ℕ) → 0 / 2 ^ j % 2 ≡ 0
zero_bit j = ap (λ (x : ℕ). x % 2) (zero-div (2 ^ j))

opens : (m : ℕ) (l : List ℕ) → SpareClear l m → m / 8 < length l → Opens m l (opened m l)
opens m l spare h = go (eqb (m % 8) 0) (eqb-true (m % 8) 0) (eqb-false (m % 8) 0)
  where
    go : (b : Bool) → (b ≡ true → m % 8 ≡ 0) → (b ≡ false → m % 8 ≡ 0 → ⊥) → Opens m l (cond b (set l (m / 8) 0) l)
    go true f g = let z = f refl in record {
      long = length-set l (m / 8) 0;
      below = λ i k. let n : i / 8 ≡ m / 8 → ⊥ = λ e. omega arith in ap (λ (y : ℕ). y / 2 ^ (i % 8) % 2) (get_or-set_other l (m / 8) (i / 8) 0 0 n);
      clear = λ i k e. ap (λ (b : ℕ). get_or (set l (m / 8) 0) b 0 / 2 ^ (i % 8) % 2) e ∙ ap (λ (y : ℕ). y / 2 ^ (i % 8) % 2) (get_or-set_same l (m / 8) 0 0 h) ∙ zero_bit (i % 8);
      tail = drop-set-lt (m / 8 + 1) l (m / 8) 0 (omega arith);
    }
    go false f g = let z = g refl in record {
      long = refl;
      below = λ i k. refl;
      clear = λ i k e. spare i k (omega (arith, z, e));
      tail = refl;
    }

-- what was dropped stays dropped
dropped : (a b : ℕ) (k l : List ℕ) → a ≤ b → drop a k ≡ drop a l → drop b k ≡ drop b l
dropped a b k l h e =
    let d : a + (b - a) ≡ b = omega arith in
    subst (λ (n : ℕ). drop n k ≡ drop n l) d (sym (drop-drop (b - a) a k) ∙ ap (drop (b - a)) e ∙ drop-drop (b - a) a l)

-- a row that goes on from l with the bit of module m
record Goes (m : ℕ) (on : Bool) (l r : List ℕ) : Type 0 where
  long : length r ≡ length l
  below : (i : ℕ) → i < m → bit_at r i ≡ bit_at l i
  here : side_of r m ≡ on
  clear : (i : ℕ) → m < i → i / 8 ≡ m / 8 → bit_at r i ≡ 0
  tail : drop (m / 8 + 1) r ≡ drop (m / 8 + 1) l

goes_on : (m : ℕ) (on : Bool) (l : List ℕ) → SpareClear l m → m / 8 < length l → Goes m on l (wrote m on l)
goes_on m true l spare h =
    let q = opens m l spare h in
    let k : m / 8 < length (opened m l) = omega (arith, q.long) in
    let other : (i : ℕ) → (i ≡ m → ⊥) → bit_at (with_bit (opened m l) m) i ≡ bit_at (opened m l) i = put_others (opened m l) m k in
    record {
      long = length-set (opened m l) (m / 8) _ ∙ q.long;
      below = λ i u. other i (λ e. omega arith) ∙ q.below i u;
      here = ap (λ (b : ℕ). eqb b 1) (put_on (opened m l) m k);
      clear = λ i u e. other i (λ f. omega arith) ∙ q.clear i (omega arith) e;
      tail = drop-set-lt (m / 8 + 1) (opened m l) (m / 8) _ (omega arith) ∙ q.tail;
    }
goes_on m false l spare h =
    let q = opens m l spare h in
    record { long = q.long; below = q.below; here = ap (λ (b : ℕ). eqb b 1) (q.clear m (omega arith) refl); clear = λ i u e. q.clear i (omega arith) e; tail = q.tail }

pub written_next : (how : List ℕ) (reached : Bool) (m : ℕ) (old l : List ℕ) (on : Bool) → on ≡ picked_of reached (get_or how m 0) → m / 8 < length l →
    Written how reached m old l → Written how reached (m + 1) old (wrote m on l)
written_next how reached m old l on e h w =
    let g = goes_on m on l w.spare h in
    record {
      long = g.long ∙ w.long;
      side = λ k i. side g k (ℕ_discrete k m) i;
      spare = λ k i j. g.clear k (omega arith) (omega arith);
      tail = let f : bytes_for (m + 1) ≡ m / 8 + 1 = omega arith in
          subst (λ (n : ℕ). drop n (wrote m on l) ≡ drop n old) (sym f) (g.tail ∙ dropped (bytes_for m) (m / 8 + 1) l old (omega arith) w.tail);
    }
  where
    side : Goes m on l (wrote m on l) → (k : ℕ) → Dec (k ≡ m) → k < m + 1 → side_of (wrote m on l) k ≡ picked_of reached (get_or how k 0)
    side g k (yes f) i = rw f (g.here ∙ e)
    side g k (no f) i = ap (λ (b : ℕ). eqb b 1) (g.below k (omega (arith, f))) ∙ w.side k (omega (arith, f))
