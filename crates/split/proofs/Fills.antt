-- A slice filled from the front, place after place, becomes the list of what was put there. Assumes nothing.
use Rattle.std.specs.Prelude.{◌≡◌, ℕ, zero, suc, ◌+◌, ◌<◌, List, [], ◌∷◌, ◌++◌, length, take, set, get_or, slice_get, IfSome}
use mathlib.Core.Path.{refl, sym, ap, ap₂, ◌∙◌}
use native.Mathlib.Numerals.{add-one}
use native.Mathlib.Omega.{arith}
use lib.Seq.{take-suc-set, take_all}
use Rattle.book.specs.Listed.{listed}

module _ {A : Type 0} where
  -- the last of the elements
  pub listed_last : (f : ℕ → A) (n : ℕ) → listed f (suc n) ≡ listed f n ++ (f n ∷ [])
  unfolding listed
  listed_last f zero = refl
  listed_last f (suc n) = ap (λ (l : List A). f 0 ∷ l) (listed_last (λ i. f (suc i)) n)

  pub fill_start : (f : ℕ → A) (l : List A) → take 0 l ≡ listed f 0
  unfolding listed
  fill_start f l = refl

  -- one more place
  pub fill_next : (f : ℕ → A) (l : List A) (i : ℕ) (x : A) → take i l ≡ listed f i → i < length l → x ≡ f i → take (i + 1) (set l i x) ≡ listed f (i + 1)
  fill_next f l i x h k e = rw add-one (take-suc-set l i x k ∙ ap (λ (p : List A). p ++ (x ∷ [])) h ∙ ap (λ (y : A). listed f i ++ (y ∷ [])) e ∙ sym (listed_last f i))

  -- every place
  pub filled : (f : ℕ → A) (l : List A) (i n : ℕ) → take i l ≡ listed f i → length l ≡ n → i ≡ n → l ≡ listed f n
  filled f l i n h k e = sym (take_all i l (omega arith)) ∙ h ∙ ap (listed f) e

  -- what stands at each place makes the list
  each_place : (f : ℕ → A) (P : ℕ → A → Type 0) (l : List A) → ((i : ℕ) (x : A) → P i x → x ≡ f i) → ((i : ℕ) → IfSome (slice_get l i) (P i)) → l ≡ listed f (length l)
  unfolding listed
  each_place f P [] says h = refl
  each_place f P (x ∷ l) says h = ap₂ (λ (y : A) (ys : List A). y ∷ ys) (says 0 x (h 0)) (each_place (λ i. f (suc i)) (λ i. P (suc i)) l (λ i. says (suc i)) (λ i. h (suc i)))

  pub filled_by : (f : ℕ → A) (P : ℕ → A → Type 0) (l : List A) (n : ℕ) → ((i : ℕ) (x : A) → P i x → x ≡ f i) → ((i : ℕ) → IfSome (slice_get l i) (P i)) → length l ≡ n → l ≡ listed f n
  filled_by f P l n says h e = each_place f P l says h ∙ ap (listed f) e

-- what stands at each place is below a bound
pub each_below : (P : ℕ → ℕ → Type 0) (l : List ℕ) (k : ℕ) → 0 < k → ((i x : ℕ) → P i x → x < k) → ((i : ℕ) → IfSome (slice_get l i) (P i)) → (n : ℕ) → get_or l n 0 < k
each_below P [] k z says h n = z
each_below P (x ∷ l) k z says h zero = says 0 x (h 0)
each_below P (x ∷ l) k z says h (suc n) = each_below (λ i. P (suc i)) l k z (λ i. says (suc i)) (λ i. h (suc i)) n
