-- A number in decimal: the digits of a tenth of it, then its last digit (`decimal_more`). It reads back as that number (`decimal_reads`), and below the j-th power of ten it has at most j digits (`decimal_most`). Assumes nothing.
use Prim.Native.Nat.{ℕ, zero, suc, ◌+◌, ◌-◌, ◌*◌, ◌/◌, ◌%◌, ◌^◌, ◌≤◌, ◌<◌}
use mathlib.Core.Path.{◌≡◌, refl, sym, ap, ◌∙◌}
use mathlib.Core.Bool.{Bool, true, false}
use mathlib.Core.List.{List, [], ◌∷◌, ◌++◌}
use native.Mathlib.Nat.{pow-suc, not-suc-le-zero}
use native.Mathlib.Omega.{arith}
use borrow.Author.Tests.{lt-ltb, le-ltb, ltb-true, ltb-false}
use lib.Dec.{ltb}
use lib.ListN.{length, length-append}
use Rattle.view.specs.Text.{digit, digits, decimal}

digits_one : (k n : ℕ) → n < 10 → digits (suc k) n ≡ digit n ∷ []
unfolding digits
digits_one k n l = let e : n % 10 ≡ n = omega arith in rw (lt-ltb n 10 l, e) refl

digits_more : (k n : ℕ) → 10 ≤ n → digits (suc k) n ≡ digits k (n / 10) ++ (digit (n % 10) ∷ [])
unfolding digits
digits_more k n l = rw (le-ltb n 10 l) refl

-- any bound above the number does
digits_same : (k j n : ℕ) → n < k → n < j → digits k n ≡ digits j n
digits_same zero j n a b = absurd (not-suc-le-zero a)
digits_same (suc k) zero n a b = absurd (not-suc-le-zero b)
digits_same (suc k) (suc j) n a b = go (ltb n 10) refl (digits_same k j (n / 10))
  where
    go : (t : Bool) → ltb n 10 ≡ t → (n / 10 < k → n / 10 < j → digits k (n / 10) ≡ digits j (n / 10)) → digits (suc k) n ≡ digits (suc j) n
    go true e f = let l = ltb-true n 10 e in digits_one k n l ∙ sym (digits_one j n l)
    go false e f =
        let l = ltb-false n 10 e in
        digits_more k n l ∙ ap (λ (t : List ℕ). t ++ (digit (n % 10) ∷ [])) (f (omega (arith, l)) (omega (arith, l))) ∙ sym (digits_more j n l)

pub decimal_one : (n : ℕ) → n < 10 → decimal n ≡ digit n ∷ []
decimal_one n l = digits_one n n l

pub decimal_more : (n : ℕ) → 10 ≤ n → decimal n ≡ decimal (n / 10) ++ (digit (n % 10) ∷ [])
decimal_more n l = digits_more n n l ∙ ap (λ (t : List ℕ). t ++ (digit (n % 10) ∷ [])) (digits_same n (suc (n / 10)) (n / 10) (omega arith) (omega arith))

-- one digit more than a tenth of it
pub decimal_long : (n : ℕ) → 10 ≤ n → length (decimal n) ≡ length (decimal (n / 10)) + 1
decimal_long n l = ap length (decimal_more n l) ∙ length-append (decimal (n / 10)) (digit (n % 10) ∷ [])

digits_most : (k j n : ℕ) → n < 10 ^ suc j → length (digits k n) ≤ suc j
unfolding digits
digits_most zero j n l = omega arith
digits_most (suc k) j n l = go (ltb n 10) refl j l (λ i. digits_most k i (n / 10))
  where
    go : (t : Bool) → ltb n 10 ≡ t → (j : ℕ) → n < 10 ^ suc j → ((i : ℕ) → n / 10 < 10 ^ suc i → length (digits k (n / 10)) ≤ suc i) → length (digits (suc k) n) ≤ suc j
    go true e j l f = rw (digits_one k n (ltb-true n 10 e)) (omega arith)
    go false e zero l f = absurd (omega (arith, l, ltb-false n 10 e))
    go false e (suc i) l f =
        rw (digits_more k n (ltb-false n 10 e)) (omega (arith, length-append (digits k (n / 10)) (digit (n % 10) ∷ []), f i (omega (arith, l, pow-suc 10 (suc i)))))

pub decimal_most : (j n : ℕ) → n < 10 ^ suc j → length (decimal n) ≤ suc j
decimal_most j n l = digits_most (suc n) j n l

-- ---- read back

-- what digits are worth, read after those that are worth v
abbrev pub worth : ℕ → List ℕ → ℕ
worth v [] = v
worth v (d ∷ ds) = worth (10 * v + (d - digit 0)) ds

worth_more : (v : ℕ) (ds es : List ℕ) → worth v (ds ++ es) ≡ worth (worth v ds) es
worth_more v [] es = refl
worth_more v (d ∷ ds) es = worth_more (10 * v + (d - digit 0)) ds es

digits_read : (k n : ℕ) → n < k → worth 0 (digits k n) ≡ n
digits_read zero n l = absurd (not-suc-le-zero l)
digits_read (suc k) n l = go (ltb n 10) refl (digits_read k (n / 10))
  where
    go : (t : Bool) → ltb n 10 ≡ t → (n / 10 < k → worth 0 (digits k (n / 10)) ≡ n / 10) → worth 0 (digits (suc k) n) ≡ n
    go true e f = ap (worth 0) (digits_one k n (ltb-true n 10 e)) ∙ omega arith
    go false e f =
        let m = ltb-false n 10 e in
        ap (worth 0) (digits_more k n m) ∙ worth_more 0 (digits k (n / 10)) (digit (n % 10) ∷ []) ∙ omega (arith, f (omega (arith, m)))

pub decimal_reads : (n : ℕ) → worth 0 (decimal n) ≡ n
decimal_reads n = digits_read (suc n) n (omega arith)
