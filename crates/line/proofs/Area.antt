-- A side inside another has no more area, and less where areas are positive, unless they are one: so the near side is the one cheapest side of least area.
-- Assumes nothing.
use mathlib.Core.Path.{◌≡◌, refl}
use mathlib.Core.Bool.{Bool, true, false, not, cond}
use Prim.Native.Nat.{ℕ, zero, suc, ◌+◌, ◌≤◌, ◌<◌}
use native.Mathlib.Omega.{arith}
use native.Mathlib.Nat.{not-suc-le-zero}
use native.Mathlib.Decide.{ℕ_discrete}
use lib.Dec.{T}
use Rattle.line.specs.Card.{Card, Side, Cheapest, Near, Alike, area_to, count_to}
use Rattle.line.proofs.Bools.{cond-le}

module _ (area : ℕ → ℕ) (s t : Side) where
  pub area_inside : (k : ℕ) → ((m : ℕ) → m < k → T (s m) → T (t m)) → area_to area s k ≤ area_to area t k
  unfolding area_to
  area_inside zero h = omega arith
  area_inside (suc k) h = omega (arith, cond-le (area k) (s k) (t k) (h k (omega arith)), area_inside k (λ m l. h m (omega arith)))

  pub area_same : (k : ℕ) → ((m : ℕ) → m < k → 0 < area m) → ((m : ℕ) → m < k → T (s m) → T (t m)) → area_to area t k ≤ area_to area s k → Alike k s t
  unfolding area_to
  area_same zero p h e m l = absurd (not-suc-le-zero l)
  area_same (suc k) p h e m l = go (ℕ_discrete m k) (area_same k (λ m l. p m (omega arith)) (λ m l. h m (omega arith)) (omega (arith, cond-le (area k) (s k) (t k) (h k (omega arith)))))
    where
      here : (a b : Bool) → (T a → T b) → 0 < area k → cond b (area k) 0 ≤ cond a (area k) 0 → a ≡ b
      here true true f q e = refl
      here true false f q e = absurd (f tt)
      here false true f q e = absurd (omega arith)
      here false false f q e = refl

      go : Dec (m ≡ k) → ((m : ℕ) → m < k → s m ≡ t m) → s m ≡ t m
      go (yes q) f = rw q (here (s k) (t k) (h k (omega arith)) (p k (omega arith)) (omega (arith, area_inside k (λ m l. h m (omega arith)))))
      go (no q) f = f m (omega (arith, q))

-- two sides that are the same below n have the same area there
pub area_to_same : (area : ℕ → ℕ) (s t : Side) (n : ℕ) → Alike n s t → area_to area s n ≡ area_to area t n
unfolding area_to
area_to_same area s t zero e = refl
area_to_same area s t (suc n) e = rw (area_to_same area s t n (λ m l. e m (omega arith)), e n (omega arith))

-- at most the area of all modules
pub area_to_most : (area : ℕ → ℕ) (s : Side) (n : ℕ) → area_to area s n ≤ area_to area (λ m. true) n
area_to_most area s n = area_inside area s (λ m. true) n (λ m l t. tt)

-- a side inside another that lacks a module of it has fewer
pub count_less : (s t : Side) (n m : ℕ) → ((i : ℕ) → T (s i) → T (t i)) → m < n → T (t m) → T (not (s m)) → count_to s n < count_to t n
unfolding area_to
count_less s t zero m f l i o = absurd (not-suc-le-zero l)
count_less s t (suc n) m f l i o = go (ℕ_discrete m n) (count_less s t n m f)
  where
    last : (a b : Bool) → T b → T (not a) → cond a 1 0 < cond b 1 0
    last true b t u = absurd u
    last false true t u = omega arith
    last false false t u = absurd t

    go : Dec (m ≡ n) → (m < n → T (t m) → T (not (s m)) → count_to s n < count_to t n) → count_to s n + cond (s n) 1 0 < count_to t n + cond (t n) 1 0
    go (yes e) r = omega (arith, area_inside (λ m. 1) s t n (λ i _. f i), last (s n) (t n) (rw e at i) (rw e at o))
    go (no e) r = omega (arith, r (omega arith) i o, cond-le 1 (s n) (t n) (f n))

-- ---- the near side is the only cheapest side of least area

module _ (c : Card) (area : ℕ → ℕ) (s t : Side) (p : Near c s) (q : Cheapest c t) where
  pub near_area : area_to area s c.modules ≤ area_to area t c.modules
  near_area = area_inside area s t c.modules (p.inside t q)

  pub near_area_one : ((m : ℕ) → m < c.modules → 0 < area m) → area_to area t c.modules ≤ area_to area s c.modules → Alike c.modules s t
  near_area_one some = area_same area s t c.modules some (p.inside t q)
