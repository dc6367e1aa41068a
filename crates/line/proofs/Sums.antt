-- A number is what it sends less what it takes, so a sum over the pins of a side is two sums in ℕ, and `omega` does the rest. Where what is sent and what is taken agree
-- at each module of a side, they agree over the side (`level_modules`). Assumes nothing.
use mathlib.Core.Path.{◌≡◌, refl, sym, ap, ◌∙◌}
use mathlib.Core.Logic.{◌≢◌}
use mathlib.Core.Bool.{Bool, true, false, not, cond, ◌&&◌, and-false}
use mathlib.Core.List.{List, [], ◌∷◌, ◌++◌, Memᴰ}
use Prim.Native.Nat.{ℕ, zero, suc, ◌+◌, ◌-◌, ◌≤◌, ◌<◌}
use native.Mathlib.Omega.{arith}
use native.Mathlib.Nat.{le_of_suc-le-suc, not-suc-le-zero}
use lib.IntN.{ℤ, pos, negsuc, ◌+ℤ◌, sub_ℕ}
use lib.Signed.{◌≤ℤ◌}
use lib.ListN.{length, take, drop, get_or}
use lib.Dec.{T, ltb, eqb, ltb→lt, nltb→le, eqb→eq, eqb_refl, T_not, le→leb}
use Rattle.line.specs.Card.{Side, outside}
use Rattle.line.specs.Flow.{sent, taken, total, total_sent, flow_at}
use Rattle.line.proofs.Bools.{T_true}

-- ---- an integer as a difference

sub_diff : (a b : ℕ) → sent (sub_ℕ a b) + b ≡ a + taken (sub_ℕ a b)
sub_diff a b = go (ltb a b) (ltb→lt a b) (nltb→le a b)
  where
    go : (t : Bool) → (T t → a < b) → (T (not t) → b ≤ a) →
        sent (cond t (negsuc (b - suc a)) (pos (a - b))) + b ≡ a + taken (cond t (negsuc (b - suc a)) (pos (a - b)))
    go true f g = omega (arith, f tt)
    go false f g = omega (arith, g tt)

pub add_diff : (x y : ℤ) → sent (x +ℤ y) + (taken x + taken y) ≡ sent x + sent y + taken (x +ℤ y)
add_diff (pos a) (pos b) = omega arith
add_diff (pos a) (negsuc b) = omega (arith, sub_diff a (suc b))
add_diff (negsuc a) (pos b) = omega (arith, sub_diff b (suc a))
add_diff (negsuc a) (negsuc b) = omega arith

pub is_zero : (z : ℤ) → sent z ≡ taken z → z ≡ pos 0
is_zero (pos n) e = ap pos e
is_zero (negsuc n) e = absurd (omega arith)

pub is_pos : (z : ℤ) (n : ℕ) → sent z ≡ n + taken z → z ≡ pos n
is_pos (pos a) n e = ap pos (omega arith)
is_pos (negsuc a) n e = absurd (omega arith)

pub diff_same : (y z : ℤ) → sent y + taken z ≡ sent z + taken y → y ≡ z
diff_same (pos a) (pos b) e = ap pos (omega arith)
diff_same (pos a) (negsuc b) e = absurd (omega arith)
diff_same (negsuc a) (pos b) e = absurd (omega arith)
diff_same (negsuc a) (negsuc b) e = ap negsuc (omega arith)

pub le_pos : (z : ℤ) (n : ℕ) → sent z ≤ n + taken z → z ≤ℤ pos n
le_pos (pos a) n h = record { le = le→leb a n (omega arith) }
le_pos (negsuc a) n h = record { le = tt }

-- ---- sums over the pins of a side; f is `sent` or `taken`

unfoldable pub sum_at : (ℤ → ℕ) → Side → List ℕ → List ℤ → ℕ
sum_at f s [] xs = 0
sum_at f s (p ∷ ps) [] = 0
sum_at f s (p ∷ ps) (x ∷ xs) = cond (s p) (f x) 0 + sum_at f s ps xs

abbrev pub everywhere : Side
everywhere m = true

unfoldable pub sum : (ℤ → ℕ) → List ℤ → ℕ
sum f [] = 0
sum f (x ∷ xs) = f x + sum f xs

sent-cond : (b : Bool) (x : ℤ) → sent (cond b x (pos 0)) ≡ cond b (sent x) 0
sent-cond true x = refl
sent-cond false x = refl

taken-cond : (b : Bool) (x : ℤ) → taken (cond b x (pos 0)) ≡ cond b (taken x) 0
taken-cond true x = refl
taken-cond false x = refl

pub flow_diff : (s : Side) (ps : List ℕ) (xs : List ℤ) →
    sent (flow_at s ps xs) + sum_at taken s ps xs ≡ sum_at sent s ps xs + taken (flow_at s ps xs)
unfolding flow_at sum_at
flow_diff s [] xs = refl
flow_diff s (p ∷ ps) [] = refl
flow_diff s (p ∷ ps) (x ∷ xs) =
    omega (arith, flow_diff s ps xs, add_diff (cond (s p) x (pos 0)) (flow_at s ps xs), sent-cond (s p) x, taken-cond (s p) x)

pub total_diff : (xs : List ℤ) → sent (total xs) + sum taken xs ≡ sum sent xs + taken (total xs)
unfolding total sum
total_diff [] = refl
total_diff (x ∷ xs) = omega (arith, total_diff xs, add_diff x (total xs))

pub sum_sent : (xs : List ℤ) → sum sent xs ≡ total_sent xs
unfolding sum total_sent
sum_sent [] = refl
sum_sent (x ∷ xs) = rw (sum_sent xs)

-- ---- sums split

module _ (f : ℤ → ℕ) where
  pub sum_at-append : (s : Side) (ps qs : List ℕ) (xs : List ℤ) →
      sum_at f s (ps ++ qs) xs ≡ sum_at f s ps (take (length ps) xs) + sum_at f s qs (drop (length ps) xs)
  unfolding sum_at
  sum_at-append s [] qs xs = omega arith
  sum_at-append s (p ∷ ps) [] [] = refl
  sum_at-append s (p ∷ ps) (q ∷ qs) [] = refl
  sum_at-append s (p ∷ ps) qs (x ∷ xs) = omega (arith, sum_at-append s ps qs xs)

  -- all pins, and no more numbers than pins: the sum of the list
  pub sum_at_all : (ps : List ℕ) (xs : List ℤ) → sum_at f everywhere ps (take (length ps) xs) ≡ sum f (take (length ps) xs)
  unfolding sum_at sum
  sum_at_all [] xs = refl
  sum_at_all (p ∷ ps) [] = refl
  sum_at_all (p ∷ ps) (x ∷ xs) = rw (sum_at_all ps xs)

  sum_at_same : (s t : Side) (ps : List ℕ) (xs : List ℤ) → ((m : ℕ) → Memᴰ m ps → s m ≡ t m) → sum_at f s ps xs ≡ sum_at f t ps xs
  unfolding sum_at
  sum_at_same s t [] xs h = refl
  sum_at_same s t (p ∷ ps) [] h = refl
  sum_at_same s t (p ∷ ps) (x ∷ xs) h = rw (h p (Memᴰ.head refl), sum_at_same s t ps xs (λ m k. h m (Memᴰ.tail k)))

  pub sum_at_none : (s : Side) (ps : List ℕ) (xs : List ℤ) → ((m : ℕ) → Memᴰ m ps → s m ≡ false) → sum_at f s ps xs ≡ 0
  unfolding sum_at
  sum_at_none s [] xs h = refl
  sum_at_none s (p ∷ ps) [] h = refl
  sum_at_none s (p ∷ ps) (x ∷ xs) h = rw (h p (Memᴰ.head refl)) (omega (arith, sum_at_none s ps xs (λ m k. h m (Memᴰ.tail k))))

-- ---- a side that is two sides with nothing in common

abbrev pub bit : Bool → ℕ
bit b = cond b 1 0

cond_split : (y : ℕ) (s a b : Bool) → bit s ≡ bit a + bit b → cond s y 0 ≡ cond a y 0 + cond b y 0
cond_split y true true true e = omega arith
cond_split y true true false e = omega arith
cond_split y true false true e = omega arith
cond_split y true false false e = omega arith
cond_split y false true true e = omega arith
cond_split y false true false e = omega arith
cond_split y false false true e = omega arith
cond_split y false false false e = omega arith

pub sum_at_split : (f : ℤ → ℕ) (s a b : Side) (ps : List ℕ) (xs : List ℤ) → ((m : ℕ) → Memᴰ m ps → bit (s m) ≡ bit (a m) + bit (b m)) →
    sum_at f s ps xs ≡ sum_at f a ps xs + sum_at f b ps xs
unfolding sum_at
sum_at_split f s a b [] xs h = refl
sum_at_split f s a b (p ∷ ps) [] h = refl
sum_at_split f s a b (p ∷ ps) (x ∷ xs) h =
    omega (arith, cond_split (f x) (s p) (a p) (b p) (h p (Memᴰ.head refl)), sum_at_split f s a b ps xs (λ m k. h m (Memᴰ.tail k)))

bit_out : (b : Bool) → 1 ≡ bit b + bit (not b)
bit_out true = refl
bit_out false = refl

pub sum_at_out : (f : ℤ → ℕ) (s : Side) (ps : List ℕ) (xs : List ℤ) → sum_at f everywhere ps xs ≡ sum_at f s ps xs + sum_at f (outside s) ps xs
sum_at_out f s ps xs = sum_at_split f everywhere s (outside s) ps xs (λ m k. bit_out (s m))

-- ---- module by module: where what is sent and what is taken agree at each module of a, they agree over a

bit_below : (m k : ℕ) → bit (ltb m (suc k)) ≡ bit (ltb m k) + bit (eqb m k)
bit_below m k = go (ltb m (suc k)) (ltb m k) (eqb m k) (ltb→lt m (suc k)) (nltb→le m (suc k)) (ltb→lt m k) (nltb→le m k) (eqb→eq m k) same
  where
    same : T (not (eqb m k)) → m ≢ k
    same t e = T_not (eqb m k) t (rw e (eqb_refl k))

    go : (x y z : Bool) → (T x → m < suc k) → (T (not x) → suc k ≤ m) → (T y → m < k) → (T (not y) → k ≤ m) → (T z → m ≡ k) → (T (not z) → m ≢ k) → bit x ≡ bit y + bit z
    go true true true a b c d e f = absurd (omega (arith, c tt, e tt))
    go true true false a b c d e f = refl
    go true false true a b c d e f = refl
    go true false false a b c d e f = absurd (omega (arith, a tt, d tt, f tt))
    go false true z a b c d e f = absurd (omega (arith, b tt, c tt))
    go false false true a b c d e f = absurd (omega (arith, b tt, e tt))
    go false false false a b c d e f = refl

and_bit : (a x y z : Bool) → bit x ≡ bit y + bit z → bit (a && x) ≡ bit (a && y) + bit (a && z)
and_bit true x y z e = e
and_bit false x y z e = refl

ltb_none : (m : ℕ) → ltb m 0 ≡ false
ltb_none m = go (ltb m 0) (ltb→lt m 0)
  where
    go : (b : Bool) → (T b → m < 0) → b ≡ false
    go true f = absurd (not-suc-le-zero (f tt))
    go false f = refl

module _ (ps : List ℕ) (xs : List ℤ) where
  abbrev pub Level : Side → Type 0
  Level s = sum_at sent s ps xs ≡ sum_at taken s ps xs

  level_none : (s : Side) → ((m : ℕ) → Memᴰ m ps → s m ≡ false) → Level s
  level_none s h = omega (arith, sum_at_none sent s ps xs h, sum_at_none taken s ps xs h)

  level_same : (s t : Side) → ((m : ℕ) → Memᴰ m ps → s m ≡ t m) → Level t → Level s
  level_same s t h l = omega (arith, sum_at_same sent s t ps xs h, sum_at_same taken s t ps xs h)

  level_split : (s a b : Side) → ((m : ℕ) → Memᴰ m ps → bit (s m) ≡ bit (a m) + bit (b m)) → Level a → Level b → Level s
  level_split s a b h k l = omega (arith, sum_at_split sent s a b ps xs h, sum_at_split taken s a b ps xs h)

  -- a at the one module k
  level_one : (a : Side) (k : ℕ) → (T (a k) → Level (λ m. eqb m k)) → Level (λ m. a m && eqb m k)
  level_one a k h = go (a k) refl
    where
      at_k : (m : ℕ) (b : Bool) → a k ≡ b → (t : Bool) → (T t → m ≡ k) → (a m && t) ≡ (b && t)
      at_k m b e true f = rw (f tt) (ap (λ (x : Bool). x && true) e)
      at_k m b e false f = and-false (a m) ∙ sym (and-false b)

      go : (b : Bool) → a k ≡ b → Level (λ m. a m && eqb m k)
      go true e = level_same (λ m. a m && eqb m k) (λ m. eqb m k) (λ m _. at_k m true e (eqb m k) (eqb→eq m k)) (h (rw e tt))
      go false e = level_none (λ m. a m && eqb m k) (λ m _. at_k m false e (eqb m k) (eqb→eq m k))

  level_below : (a : Side) (k : ℕ) → ((m : ℕ) → m < k → T (a m) → Level (λ n. eqb n m)) → Level (λ m. a m && ltb m k)
  level_below a zero h = level_none (λ m. a m && ltb m 0) (λ m _. rw (ltb_none m) (and-false (a m)))
  level_below a (suc k) h =
      level_split (λ m. a m && ltb m (suc k)) (λ m. a m && ltb m k) (λ m. a m && eqb m k)
      (λ m _. and_bit (a m) (ltb m (suc k)) (ltb m k) (eqb m k) (bit_below m k))
      (level_below a k (λ m l. h m (omega arith)))
      (level_one a k (h k (omega arith)))

  pub level_modules : (a : Side) (M : ℕ) → ((m : ℕ) → Memᴰ m ps → m < M) → ((m : ℕ) → m < M → T (a m) → Level (λ n. eqb n m)) → Level a
  level_modules a M lt h =
      level_same a (λ m. a m && ltb m M) (λ m i. go m (a m) (lt m i)) (level_below a M h)
    where
      go : (m : ℕ) (b : Bool) → m < M → b ≡ (b && ltb m M)
      go m true l = sym (T_true (ltb m M) (le→leb (suc m) M l))
      go m false l = refl

-- ---- a sum is 0 where every term is, and only there

pub sum_at_zeros : (f : ℤ → ℕ) (s : Side) (ps : List ℕ) (xs : List ℤ) → ((i : ℕ) → i < length ps → T (s (get_or ps i 0)) → f (get_or xs i (pos 0)) ≡ 0) → sum_at f s ps xs ≡ 0
unfolding sum_at
sum_at_zeros f s [] xs h = refl
sum_at_zeros f s (p ∷ ps) [] h = refl
sum_at_zeros f s (p ∷ ps) (x ∷ xs) h = omega (arith, go (s p) (h 0 (omega arith)), sum_at_zeros f s ps xs (λ i l. h (suc i) (omega arith)))
  where
    go : (b : Bool) → (T b → f x ≡ 0) → cond b (f x) 0 ≡ 0
    go true e = e tt
    go false e = refl

pub zeros_sum_at : (f : ℤ → ℕ) → f (pos 0) ≡ 0 → (s : Side) (ps : List ℕ) (xs : List ℤ) → sum_at f s ps xs ≡ 0 →
    (i : ℕ) → i < length ps → T (s (get_or ps i 0)) → f (get_or xs i (pos 0)) ≡ 0
unfolding sum_at
zeros_sum_at f z s [] xs e i l t = absurd (not-suc-le-zero l)
zeros_sum_at f z s (p ∷ ps) [] e i l t = z
zeros_sum_at f z s (p ∷ ps) (x ∷ xs) e zero l t = go (s p) t (omega arith)
  where
    go : (b : Bool) → T b → cond b (f x) 0 ≡ 0 → f x ≡ 0
    go true t e = e
    go false t e = absurd t
zeros_sum_at f z s (p ∷ ps) (x ∷ xs) e (suc i) l t = zeros_sum_at f z s ps xs (omega arith) i (le_of_suc-le-suc l) t
