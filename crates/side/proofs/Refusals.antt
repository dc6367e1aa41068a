-- What the checks before a call tell of a given side, and that they refuse it exactly when document 01 says. Assumes nothing.
use Rattle.std.specs.Prelude.{Option, Some, None, Result, Ok, Err, ⊤}
use Rattle.book.specs.declared.Book.{Book}
use Prim.Native.Nat.{ℕ, ◌≤◌, ◌<◌}
use mathlib.Core.Path.{◌≡◌, refl, sym, ap, subst, ◌∙◌}
use mathlib.Core.Bool.{Bool, true, false, not, true≢false}
use mathlib.Core.List.{List}
use native.Mathlib.Omega.{arith}
use lib.Dec.{T}
use lib.ListN.{length}
use borrow.Author.Tests.{ltb-true, ltb-false, lt-ltb, le-ltb, not-false}
use Rattle.line.proofs.Bools.{T_true, and_l, and_r, and_mk}
use Rattle.book.specs.declared.Refusal.{Refusal}
use Rattle.book.specs.declared.Refusal.TheVariants.{Layout, Counts, Module, Net, Pin, Marks, Buffer, Side}
use Rattle.book.specs.Answer.{number_of, numbers_of}
use Rattle.book.specs.Format.{modules}
use Rattle.book.specs.Checks.{check1, check2, check3, check4, check5, check6, refuse, book_of, rest_of, read_of}
use Rattle.book.proofs.Sound.{sound}
use Rattle.side.specs.Sides.{side_of, bytes_for, Bytes, spare_test}
use Rattle.side.specs.Given.{Lent, Fits, Reads, Refuses, reader, short, misfit, separates, is_short, is_good, refuse_if, given_sound, after_read, given}
use Rattle.side.proofs.Parting.{test_separates, separates_test}
use Rattle.side.proofs.Spares.{test_tells, test_passes}

-- no refusal
passed : (b : Bool) (why : Refusal) (rest : Result ⊤ Refusal) → refuse_if b why rest ≡ (Ok tt) → (b ≡ false) × (rest ≡ (Ok tt))
passed true why rest e = let z : ◌≡◌ {A = ℕ} 0 1 = cc in absurd (omega arith)
passed false why rest e = (refl, e)

module _ (s l : List ℕ) where
  -- ---- checks 8 and 9 as tests, and what they test

  fits_of : is_short s l ≡ false → is_good s l ≡ true → Fits s l
  unfolding is_short is_good
  fits_of a g =
      let t : T (is_good s l) = rw g tt in
      record {
        enough = ltb-false _ _ a;
        separates = test_separates s (side_of l) (T_true _ (and_l (separates s (side_of l)) (spare_test l (modules s)) t));
        spare = test_tells l (modules s) (and_r (separates s (side_of l)) (spare_test l (modules s)) t);
      }

  fits_good : Bytes l → Fits s l → is_good s l ≡ true
  unfolding is_good
  fits_good h f =
      let a : T (separates s (side_of l)) = rw (separates_test s (side_of l) f.separates) tt in
      T_true _ (and_mk (separates s (side_of l)) (spare_test l (modules s)) a (test_passes l (modules s) (h _) f.spare))

  -- ---- where the checks let a side through

  read : (r : Result Book Refusal) → read_of s ≡ r → after_read r (given_sound s l) ≡ (Ok tt) → Reads s × (given_sound s l ≡ (Ok tt))
  read (Ok b) e h = ((b, e), h)
  read (Err why) e h = let z : ◌≡◌ {A = ℕ} 0 1 = cc in absurd (omega arith)

  pub given_tells : given s l ≡ (Ok tt) → Reads s × Fits s l
  unfolding given given_sound
  given_tells e =
      let r = read (read_of s) refl e in
      let a = passed (is_short s l) Buffer (refuse_if (not (is_good s l)) Side (Ok tt)) r.1 in
      (r.0, fits_of a.0 (not-false _ (passed (not (is_good s l)) Side (Ok tt) a.1).0))

  -- such a side is lent whole
  pub good_lent : given s l ≡ (Ok tt) → Lent s l
  good_lent e = let p = given_tells e in record { sound = sound s p.0.0 p.0.1; enough = p.1.enough }

  module _ (h : Bytes l) where
    pub given_passes : Reads s → Fits s l → given s l ≡ (Ok tt)
    unfolding given given_sound is_short
    given_passes r f = rw (r.1, le-ltb (length l) (bytes_for (modules s)) f.enough, fits_good h f)

    -- ---- where they refuse it

    why_sound : Reads s → (why : Refusal) (p q : Bool) → is_short s l ≡ p → is_good s l ≡ q → refuse_if p Buffer (refuse_if (not q) Side (Ok tt)) ≡ Err why → Refuses s l why
    unfolding is_short
    why_sound r why true q a g e = let u : Buffer ≡ why = cc in subst (Refuses s l) u (short r (ltb-true _ _ a))
    why_sound r why false true a g e = let z : ◌≡◌ {A = ℕ} 0 1 = cc in absurd (omega arith)
    why_sound r why false false a g e =
        let u : Side ≡ why = cc in
        subst (Refuses s l) u (misfit r (ltb-false _ _ a) (λ f. true≢false (sym (fits_good h f) ∙ g)))

    why_read : (why : Refusal) (r : Result Book Refusal) → read_of s ≡ r → after_read r (given_sound s l) ≡ Err why → Refuses s l why
    unfolding given_sound
    why_read why (Ok b) e g = why_sound (b, e) why (is_short s l) (is_good s l) refl refl g
    why_read why (Err w) e g = let u : w ≡ why = cc in reader (e ∙ ap Err u)

    pub given_refuses : (why : Refusal) → given s l ≡ Err why → Refuses s l why
    unfolding given
    given_refuses why e = why_read why (read_of s) refl e

    is_bad : (b : Bool) → is_good s l ≡ b → is_short s l ≡ false → (Fits s l → ⊥) → is_good s l ≡ false
    is_bad true g a f = absurd (f (fits_of a g))
    is_bad false g a f = g

    pub refuses_given : {why : Refusal} → Refuses s l why → given s l ≡ Err why
    unfolding given given_sound is_short
    refuses_given (reader e) = rw e
    refuses_given (short r a) = rw (r.1, lt-ltb (length l) (bytes_for (modules s)) a)
    refuses_given (misfit r n f) =
        let a = le-ltb (length l) (bytes_for (modules s)) n in
        rw (r.1, a, is_bad (is_good s l) refl a f)

-- ---- by document 01's numbers

-- the reader refuses with 1 to 6
low : (f : Option ℕ) (why : ℕ → Refusal) (rest : Result Book Refusal) → ((i : ℕ) → number_of (why i) ≤ 6) → (numbers_of rest).number ≤ 6 → (numbers_of (refuse f why rest)).number ≤ 6
low (Some i) why rest h k = h i
low None why rest h k = k

reader_low : (s : List ℕ) → (numbers_of (read_of s)).number ≤ 6
unfolding read_of rest_of
reader_low s =
    low (check1 s) (λ i. Layout) (rest_of s) (λ i. omega arith)
    (low (check2 s) (λ i. Counts) _ (λ i. omega arith)
    (low (check3 s) Module _ (λ i. omega arith)
    (low (check4 s) Net _ (λ i. omega arith)
    (low (check5 s) Pin _ (λ i. omega arith)
    (low (check6 s) (λ i. Marks) (Ok (book_of s)) (λ i. omega arith) (omega arith))))))

module _ (s l : List ℕ) where
  by_reader : {why : Refusal} → read_of s ≡ Err why → number_of why ≤ 6
  by_reader {why} e = subst (λ (r : Result Book Refusal). (numbers_of r).number ≤ 6) e (reader_low s)

  pub one_to_six : {why : Refusal} → Refuses s l why → number_of why ≤ 6 → read_of s ≡ Err why
  one_to_six (reader e) h = e
  one_to_six (short r a) h = absurd (omega arith)
  one_to_six (misfit r n f) h = absurd (omega arith)

  pub eight : {why : Refusal} → Refuses s l why → number_of why ≡ 8 → Reads s × (length l < bytes_for (modules s))
  eight (reader e) h = absurd (omega (arith, by_reader e))
  eight (short r a) h = (r, a)
  eight (misfit r n f) h = absurd (omega arith)

  pub nine : {why : Refusal} → Refuses s l why → number_of why ≡ 9 → Reads s × (bytes_for (modules s) ≤ length l) × (Fits s l → ⊥)
  nine (reader e) h = absurd (omega (arith, by_reader e))
  nine (short r a) h = absurd (omega arith)
  nine (misfit r n f) h = (r, n, f)

  -- and with no other
  pub to_nine : {why : Refusal} → Refuses s l why → number_of why ≤ 9
  to_nine (reader e) = omega (arith, by_reader e)
  to_nine (short r a) = omega arith
  to_nine (misfit r n f) = omega arith
