-- A list by its elements: its length, what stands at a place, and what is in it. Assumes nothing.
use mathlib.Core.Path.{◌≡◌, refl, ap}
use mathlib.Core.Logic.{◌⊎◌, inl, inr}
use mathlib.Core.List.Memᴰ
use mathlib.Core.List.{Memᴰ}
use Prim.Native.Nat.{ℕ, zero, suc, ◌<◌}
use native.Mathlib.Omega.{arith}
use native.Mathlib.Nat.{not-suc-le-zero, le_of_suc-le-suc}
use lib.ListN.{length, get_or}
use Rattle.book.specs.Listed.{listed}

module _ {A : Type 0} where
  pub length_listed : (f : ℕ → A) (n : ℕ) → length (listed f n) ≡ n
  unfolding listed
  length_listed f zero = refl
  length_listed f (suc n) = ap suc (length_listed (λ i. f (suc i)) n)

  pub get_or_listed : (f : ℕ → A) (n i : ℕ) (d : A) → i < n → get_or (listed f n) i d ≡ f i
  unfolding listed
  get_or_listed f zero i d l = absurd (not-suc-le-zero l)
  get_or_listed f (suc n) zero d l = refl
  get_or_listed f (suc n) (suc i) d l = get_or_listed (λ k. f (suc k)) n i d (le_of_suc-le-suc l)

  pub mem_listed : (f : ℕ → A) (n : ℕ) (x : A) → Memᴰ x (listed f n) → (i : ℕ) × (i < n) × (x ≡ f i)
  unfolding listed
  mem_listed f zero x h = absurd (Memᴰ.not-nil h)
  mem_listed f (suc n) x h = go (Memᴰ.cases_cons h) (mem_listed (λ i. f (suc i)) n x)
    where
      go : (x ≡ f 0) ⊎ Memᴰ x (listed (λ i. f (suc i)) n) → (Memᴰ x (listed (λ i. f (suc i)) n) → (i : ℕ) × (i < n) × (x ≡ f (suc i))) →
          (i : ℕ) × (i < suc n) × (x ≡ f i)
      go (inl e) r = (0, omega arith, e)
      go (inr k) r = let q = r k in (suc q.0, omega (arith, q.1), q.2)
