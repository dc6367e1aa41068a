-- Sums of f 0, f 1, .., f (n - 1): one more, the same terms, and sums of sums. Assumes nothing.
use Prim.Native.Nat.{ℕ, zero, suc, ◌+◌, ◌<◌}
use mathlib.Core.Path.{◌≡◌, refl}
use mathlib.Core.Bool.{Bool, true, false, cond}
use native.Mathlib.Nat.{not-suc-le-zero}
use native.Mathlib.Decide.{ℕ_discrete}
use native.Mathlib.Numerals.{add-one}
use native.Mathlib.Omega.{arith}
use borrow.Author.Tests.{eq-eqb, ne_eqb}
use lib.Dec.{eqb}
use Rattle.line.specs.Card.{Alike}
use Rattle.audit.specs.Rules.{sum_to}

pub sum_none : (f : ℕ → ℕ) → 0 ≡ sum_to f 0
unfolding sum_to
sum_none f = refl

-- one more, as a loop goes
pub sum_next : (f : ℕ → ℕ) (n : ℕ) → sum_to f (n + 1) ≡ sum_to f n + f n
unfolding sum_to
sum_next f n = rw add-one

pub sum_same : (f g : ℕ → ℕ) (n : ℕ) → Alike n f g → sum_to f n ≡ sum_to g n
unfolding sum_to
sum_same f g zero e = refl
sum_same f g (suc n) e = omega (arith, sum_same f g n (λ m l. e m (omega arith)), e n (omega arith))

pub sum_zeros : (f : ℕ → ℕ) (n : ℕ) → ((m : ℕ) → m < n → f m ≡ 0) → sum_to f n ≡ 0
unfolding sum_to
sum_zeros f zero e = refl
sum_zeros f (suc n) e = omega (arith, sum_zeros f n (λ m l. e m (omega arith)), e n (omega arith))

sum-add : (f g : ℕ → ℕ) (n : ℕ) → sum_to (λ m. f m + g m) n ≡ sum_to f n + sum_to g n
unfolding sum_to
sum-add f g zero = refl
sum-add f g (suc n) = omega (arith, sum-add f g n)

-- the one term at k
sum_only : (w : ℕ → ℕ) (k n : ℕ) → k < n → sum_to (λ m. cond (eqb k m) (w m) 0) n ≡ w k
unfolding sum_to
sum_only w k zero l = absurd (not-suc-le-zero l)
sum_only w k (suc n) l = go (ℕ_discrete k n) (sum_only w k n)
  where
    go : Dec (k ≡ n) → (k < n → sum_to (λ m. cond (eqb k m) (w m) 0) n ≡ w k) → sum_to (λ m. cond (eqb k m) (w m) 0) n + cond (eqb k n) (w n) 0 ≡ w k
    go (yes e) r =
        let before : sum_to (λ m. cond (eqb k m) (w m) 0) n ≡ 0 = sum_zeros (λ m. cond (eqb k m) (w m) 0) n (λ m h. rw (ne_eqb k m (λ q. omega arith))) in
        let here : cond (eqb k n) (w n) 0 ≡ w k = rw (eq-eqb k n e, e) in
        omega arith
    go (no ne) r =
        let here : cond (eqb k n) (w n) 0 ≡ 0 = rw (ne_eqb k n ne) in
        omega (arith, r (omega arith))

-- each place p counts v p for q p. Added up by what they count for, over those of a, and added up in their order: the same.
module _ (a : ℕ → Bool) (q v : ℕ → ℕ) (n : ℕ) where
  abbrev counted : ℕ → ℕ → ℕ
  counted k m = sum_to (λ p. cond (eqb (q p) m) (v p) 0) k

  none : (b : Bool) → ◌≡◌ {A = ℕ} (cond b 0 0) 0
  none true = refl
  none false = refl

  parted : (b : Bool) (x y : ℕ) (t : Bool) → cond b (x + cond t y 0) 0 ≡ cond b x 0 + cond t (cond b y 0) 0
  parted true x y t = refl
  parted false x y true = refl
  parted false x y false = refl

  pub sum_swap : (k : ℕ) → ((p : ℕ) → p < k → q p < n) → sum_to (λ m. cond (a m) (counted k m) 0) n ≡ sum_to (λ p. cond (a (q p)) (v p) 0) k
  unfolding sum_to
  sum_swap zero l = sum_zeros (λ m. cond (a m) 0 0) n (λ m h. none (a m))
  sum_swap (suc k) l =
      let split = sum_same (λ m. cond (a m) (counted k m + cond (eqb (q k) m) (v k) 0) 0) (λ m. cond (a m) (counted k m) 0 + cond (eqb (q k) m) (cond (a m) (v k) 0) 0) n (λ m h. parted (a m) (counted k m) (v k) (eqb (q k) m)) in
      let both = sum-add (λ m. cond (a m) (counted k m) 0) (λ m. cond (eqb (q k) m) (cond (a m) (v k) 0) 0) n in
      let here = sum_only (λ m. cond (a m) (v k) 0) (q k) n (l k (omega arith)) in
      omega (arith, split, both, here, sum_swap k (λ p h. l p (omega arith)))

-- from the first on, and not up to the last
pub sum_first : (f : ℕ → ℕ) (n : ℕ) → sum_to f (suc n) ≡ f 0 + sum_to (λ i. f (suc i)) n
unfolding sum_to
sum_first f zero = omega arith
sum_first f (suc n) = omega (arith, sum_first f n)
