-- The laws of `first`: a loop that finds nothing at each place it passes, and one that stops at a find.
-- Assumes nothing.
use Rattle.std.specs.Prelude.{Option, Some, None, MatchOption, MatchBool, HoldsAt, length, get_or}
use Prim.Native.Nat.{ℕ, zero, suc, ◌+◌, ◌<◌, ◌≤◌}
use mathlib.Core.Path.{◌≡◌, refl, sym, ◌∙◌}
use mathlib.Core.Bool.{Bool, true, false, not, true≢false}
use Rattle.std.specs.List.{AllWithin, range_with_len}
use Rattle.std.proofs.lemmas.List.FromFn.{length-range_with_len, get_or-range_with_len}
use lib.Dec.{T}
use mathlib.Core.Logic.{◌⊎◌, inl, inr, ⊎_elim}
use native.Mathlib.Nat.{zero-add, eq-or-lt_of_le, not-suc-le-zero, le_of_suc-le-suc}
use native.Mathlib.Numerals.{add-one}
use native.Mathlib.Decide.{le_ind}
use native.Mathlib.Omega.{arith}
use Rattle.line.specs.Card.{Alike}
use Rattle.line.proofs.Bools.{T_true, T_false}
use Rattle.book.specs.First.{first, lowest, find_if, or_else, is_nothing}

-- one place more
pub first_more : (f : ℕ → Option ℕ) (i : ℕ) → first f i ≡ None → f i ≡ None → first f (i + 1) ≡ None
unfolding first
first_more f i h k = rw (add-one, h) k

-- the find at i, the first, is the find of any n places that hold i
pub first_found : (f : ℕ → Option ℕ) (i n p : ℕ) → first f i ≡ None → f i ≡ Some p → i < n → first f n ≡ Some p
unfolding first
first_found f i n p h k l = le_ind {n = suc i} (λ m. first f m ≡ Some p) (rw h k) (λ m _ e. rw e) n l

pub both_nothing : (a b : Option ℕ) → or_else a b ≡ None → (a ≡ None) × (b ≡ None)
both_nothing (Some p) b e = let z : ◌≡◌ {A = ℕ} 0 1 = cc in absurd (omega arith)
both_nothing None b e = (refl, e)

-- where n places find nothing, each of them does
pub first_nothing : (f : ℕ → Option ℕ) (n k : ℕ) → first f n ≡ None → k < n → f k ≡ None
unfolding first
first_nothing f zero k h l = absurd (not-suc-le-zero l)
first_nothing f (suc n) k h l =
    let b = both_nothing (first f n) (f n) h in
    ⊎_elim (λ e. rw e b.1) (λ m. first_nothing f n k b.0 m) (eq-or-lt_of_le (le_of_suc-le-suc l))

-- the same of tests
pub lowest_more : (t : ℕ → Bool) (i : ℕ) → lowest t i ≡ None → t i ≡ false → lowest t (i + 1) ≡ None
unfolding lowest
lowest_more t i h e = first_more _ i h (rw e)

pub lowest_found : (t : ℕ → Bool) (i n : ℕ) → lowest t i ≡ None → t i ≡ true → i < n → lowest t n ≡ Some i
unfolding lowest
lowest_found t i n h e l = first_found _ i n i h (rw e) l

pub passed : (t : Bool) (p : ℕ) → find_if t p ≡ None → t ≡ false
passed true p e = let z : ◌≡◌ {A = ℕ} 0 1 = cc in absurd (omega arith)
passed false p e = refl

pub lowest_clear : (t : ℕ → Bool) (n k : ℕ) → lowest t n ≡ None → k < n → t k ≡ false
unfolding lowest
lowest_clear t n k h l = passed (t k) k (first_nothing _ n k h l)

pub lowest_ended : (t : ℕ → Bool) (i n : ℕ) → lowest t i ≡ None → i ≡ n → lowest t n ≡ None
lowest_ended t i n h e = rw e at h

-- a find is the first place at which the test holds
one_of : (a b : Option ℕ) (p : ℕ) → or_else a b ≡ Some p → (a ≡ Some p) ⊎ ((a ≡ None) × (b ≡ Some p))
one_of (Some i) b p e = inl e
one_of None b p e = inr (refl, e)

tested : (t : Bool) (k p : ℕ) → find_if t k ≡ Some p → (k ≡ p) × (t ≡ true)
tested true k p e = (cc, refl)
tested false k p e = let z : ◌≡◌ {A = ℕ} 0 1 = cc in absurd (omega arith)

pub lowest_at : (t : ℕ → Bool) (n p : ℕ) → lowest t n ≡ Some p → (p < n) × (t p ≡ true) × ((k : ℕ) → k < p → t k ≡ false)
unfolding lowest first
lowest_at t zero p e = let z : ◌≡◌ {A = ℕ} 0 1 = cc in absurd (omega arith)
lowest_at t (suc n) p e =
    ⊎_elim
    (λ q. let r = lowest_at t n p q in (omega arith, r.1, r.2))
    (λ q. let r = tested (t n) n p q.1 in (omega arith, rw r.0 at r.1, λ k l. lowest_clear t n k q.0 (omega arith)))
    (one_of (first (λ k. find_if (t k) k) n) (find_if (t n) n) p e)

-- ---- as evidence

pub record Lowest (f : ℕ → Bool) (n m : ℕ) : Type 0 where
  pub under : m < n
  pub passes : T (f m)
  pub before : (i : ℕ) → i < m → T (not (f i))

pub lowest_none : (f : ℕ → Bool) (n : ℕ) → lowest f n ≡ None → (i : ℕ) → i < n → T (not (f i))
lowest_none f n e i l = rw (lowest_clear f n i e l) tt

pub lowest_some : (f : ℕ → Bool) (n m : ℕ) → lowest f n ≡ Some m → Lowest f n m
lowest_some f n m e = let h = lowest_at f n m e in record { under = h.0; passes = rw h.1 tt; before = λ i l. rw (h.2 i l) tt }

-- back: what a loop finds
pub none_lowest : (f : ℕ → Bool) (n : ℕ) → ((i : ℕ) → i < n → T (not (f i))) → lowest f n ≡ None
unfolding lowest first
none_lowest f zero h = refl
none_lowest f (suc n) h = rw (none_lowest f n (λ i l. h i (omega arith)), T_false (f n) (h n (omega arith)))

pub lowest_is : (f : ℕ → Bool) (n m : ℕ) → Lowest f n m → lowest f n ≡ Some m
lowest_is f n m q = lowest_found f m n (none_lowest f m q.before) (T_true (f m) q.passes) q.under

-- it asks of the places below n alone
pub lowest_same : (f g : ℕ → Bool) (n : ℕ) → Alike n f g → lowest f n ≡ lowest g n
unfolding lowest first
lowest_same f g zero e = refl
lowest_same f g (suc n) e = rw (lowest_same f g n (λ m l. e m (omega arith)), e n (omega arith))

-- ---- what `find`, `any` and `all` answer, over the range of the places

pub lowest_by : (t : ℕ → Bool) (n : ℕ) (r : Option ℕ) → MatchOption r ((k : ℕ) → 0 ≤ k → k < n → t k ≡ false) (λ i. (0 ≤ i) × (i < n) × (t i ≡ true) × ((k : ℕ) → 0 ≤ k → k < i → t k ≡ false)) → r ≡ lowest t n
lowest_by t n None h = sym (none_lowest t n (λ i l. rw (h i (omega arith) l) tt))
lowest_by t n (Some i) h = sym (lowest_found t i n (none_lowest t i (λ k l. rw (h.3 k (omega arith) l) tt)) h.2 h.1)

-- a place where the test holds: some place is the lowest
found_none : (t : ℕ → Bool) (n k : ℕ) (r : Option ℕ) → lowest t n ≡ r → k < n → t k ≡ true → false ≡ is_nothing r
found_none t n k None q l e = absurd (true≢false (sym e ∙ lowest_clear t n k q l))
found_none t n k (Some i) q l e = refl

-- `all` where the test fails at each place
pub none_by : (t : ℕ → Bool) (n : ℕ) (r : Bool) → MatchBool r (AllWithin (λ k. t k ≡ false) (range_with_len 0 n) 0 (length (range_with_len 0 n))) ((k : ℕ) × (k < length (range_with_len 0 n)) × HoldsAt (λ x. t x ≡ true) (range_with_len 0 n) k) → r ≡ is_nothing (lowest t n)
none_by t n true h =
    let e = none_lowest t n (λ i l. rw (← (get_or-range_with_len 0 n i 0 l ∙ zero-add i)) (rw (h i 0 (omega arith) (omega (arith, length-range_with_len 0 n))) tt)) in
    rw e
none_by t n false h =
    let l = length-range_with_len 0 n in
    let g : get_or (range_with_len 0 n) h.0 0 ≡ h.0 = get_or-range_with_len 0 n h.0 0 (omega (arith, h.1)) ∙ zero-add h.0 in
    let e : t h.0 ≡ true = rw g at (h.2 0) in
    found_none t n h.0 (lowest t n) refl (omega (arith, h.1)) e
