-- Sets of modules as lists: a module is in the set where the list holds more than 0. Assumes nothing.
use mathlib.Core.Path.{◌≡◌, refl, sym, ◌∙◌, subst}
use mathlib.Core.Bool.{Bool, true, false, true≢false}
use mathlib.Core.Logic.{◌⊎◌, inl, inr}
use mathlib.Core.List.{List, [], ◌∷◌, ◌++◌}
use Prim.Native.Nat.{ℕ, zero, suc, ◌+◌, ◌<◌}
use native.Mathlib.Nat.{le_of_suc-le-suc, not-suc-le-zero}
use native.Mathlib.Decide.{ℕ_discrete}
use native.Mathlib.Omega.{arith}
use lib.ListN.{length, get_or, set}
use lib.Seq.{get_or-set_same, get_or-set_other}
use Rattle.flow.specs.Search.{In, is_zero, zeros}

pub in_eq : (x y : List ℕ) (m : ℕ) → get_or y m 0 ≡ get_or x m 0 → In x m → In y m
in_eq x y m e h = omega arith

pub in_set : (x : List ℕ) (m v k : ℕ) → 0 < v → m < length x → In x k → In (set x m v) k
in_set x m v k hv l h = go (ℕ_discrete k m)
  where
    go : Dec (k ≡ m) → In (set x m v) k
    go (yes e) = subst (λ (n : ℕ). In (set x m v) n) (sym e) (subst (λ (n : ℕ). 0 < n) (sym (get_or-set_same x m v 0 l)) hv)
    go (no n) = subst (λ (n : ℕ). 0 < n) (sym (get_or-set_other x m k v 0 n)) h

pub in_set_here : (x : List ℕ) (m v : ℕ) → 0 < v → m < length x → In (set x m v) m
in_set_here x m v hv l = subst (λ (n : ℕ). 0 < n) (sym (get_or-set_same x m v 0 l)) hv

pub set_in : (x : List ℕ) (m v k : ℕ) → In (set x m v) k → (k ≡ m) ⊎ In x k
set_in x m v k h = go (ℕ_discrete k m)
  where
    go : Dec (k ≡ m) → (k ≡ m) ⊎ In x k
    go (yes e) = inl e
    go (no n) = inr (subst (λ (n : ℕ). 0 < n) (get_or-set_other x m k v 0 n) h)

is_zero_pos : (v : ℕ) → 0 < v → is_zero v ≡ 0
is_zero_pos zero h = absurd (not-suc-le-zero h)
is_zero_pos (suc v) h = refl

pub zeros-set : (x : List ℕ) (m v : ℕ) → 0 < v → m < length x → get_or x m 0 ≡ 0 → zeros (set x m v) + 1 ≡ zeros x
unfolding zeros
zeros-set [] m v hv l e = absurd (not-suc-le-zero l)
zeros-set (a ∷ xs) zero v hv l e = rw (e, is_zero_pos v hv) (omega arith)
zeros-set (a ∷ xs) (suc m) v hv l e = omega (arith, zeros-set xs m v hv (le_of_suc-le-suc l) e)

pub zeros-append : (x y : List ℕ) → zeros (x ++ y) ≡ zeros x + zeros y
unfolding zeros
zeros-append [] y = omega arith
zeros-append (a ∷ x) y = omega (arith, zeros-append x y)

pub zeros_one : (v : ℕ) → 0 < v → zeros (v ∷ []) ≡ 0
unfolding zeros
zeros_one zero h = absurd (not-suc-le-zero h)
zeros_one (suc v) h = refl

pub in_length : (x : List ℕ) (m : ℕ) → In x m → m < length x
in_length [] m h = absurd (not-suc-le-zero h)
in_length (a ∷ x) zero h = omega arith
in_length (a ∷ x) (suc m) h = omega (arith, in_length x m h)

-- ---- what a test at a module says

pub in_of : (x : List ℕ) {m k : ℕ} → m ≡ k → (get_or x m 0 ≡ 0 → ⊥) → In x k
in_of x {m} {k} e n = subst (λ (j : ℕ). In x j) e (omega arith)

pub clash : {A : Type 0} {b : Bool} → b ≡ true → b ≡ false → A
clash {A} {b} p q = absurd (true≢false (sym p ∙ q))
