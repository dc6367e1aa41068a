-- Laws of the checker: its answer is one; it accepts exactly a certified flow, side and price; it refuses exactly when document 01 says, with its place.
-- `Bytes l` says that the numbers of the list l are bytes. Assumes nothing.
use Rattle.std.specs.Prelude.{Option, Some, None, Result, Ok, Err, ⊤}
use Rattle.book.specs.declared.Book.{Book}
use Prim.Native.Nat.{ℕ, ◌+◌, ◌≤◌, ◌<◌}
use mathlib.Core.Path.{◌≡◌, refl, sym, ap, subst, ◌∙◌}
use mathlib.Core.Logic.{◌⊎◌, inl, inr}
use mathlib.Core.Bool.{Bool, true, false, ◌||◌, true≢false, and-eq-true_iff, or-true}
use mathlib.Core.List.{List}
use native.Mathlib.Omega.{arith}
use borrow.Author.Tests.{ltb-true, ltb-false, lt-ltb, le-ltb, eqb-true, eq-eqb}
use lib.Dec.{ltb, eqb}
use lib.IntN.{ℤ, pos}
use lib.ListN.{length}
use Rattle.line.specs.Card.{Cheapest, price}
use Rattle.line.specs.Flow as page
use Rattle.line.specs.Flow.{EachNet, Fair}
use Rattle.book.specs.declared.Refusal.{Refusal}
use Rattle.book.specs.declared.Refusal.TheVariants.{Buffer, Side, NetRule, ModuleRule, Values}
use Rattle.book.specs.Format.{modules, pins}
use Rattle.book.specs.Checks.{read_of}
use Rattle.book.specs.Answer.{number_of, place_of}
use Rattle.book.specs.Sound.{Sound}
use Rattle.book.specs.Cards.{nets_of, card_of}
use Rattle.book.proofs.Sound.{sound}
use Rattle.book.proofs.CardLaws.{card_valid}
use Rattle.side.specs.Sides.{side_of, bytes_for, Bytes}
use Rattle.side.specs.Given as side
use Rattle.side.specs.Given.{Fits, Reads, is_short, is_good, given_sound, given}
use Rattle.side.specs.Prices.{priced}
use Rattle.side.proofs.Refusals as refusals
use Rattle.side.proofs.Prices.{price_tells, price_answers}
use Rattle.audit.specs.Rules.{needed, check11, check12, value_sent, value_taken, balance_of, ruled_of}
use Rattle.audit.specs.Checker.{agree, checked_good, is_short_flow, checked_sound, checked_of}
use Rattle.audit.specs.Certificate.{Certified, Greatest}
use Rattle.audit.specs.Verdicts.{BrokenNet, BrokenModule, Presented, Accepts, Refuses, reader, short, misfit, net, free, unequal}
use Rattle.audit.proofs.Certificates.{certified_cheapest, certified_greatest, certified_all, one_price}
use Rattle.audit.proofs.Unread.{needed_needed, one_ruled}
use Rattle.audit.proofs.Fairness.{nets_keep, keep_nets, net_refused, refused_net, module_refused, refused_module, passes_fair, fair_passes, value_from, value_to}

-- any two answers that `check`'s contract allows are one
pub check_one : (s l : List ℕ) (xs : List ℤ) (claim : ℕ) (r q : Result ⊤ Refusal) → r ≡ checked_of s l xs claim → q ≡ checked_of s l xs claim → r ≡ q
check_one s l xs claim r q h k = h ∙ sym k

-- ---- checks 8 and 9 as tests, and what they test

module _ (s l : List ℕ) (r : Reads s) where
  fits_of : is_short s l ≡ false → is_good s l ≡ true → Fits s l
  unfolding priced given given_sound
  fits_of a g = (price_tells s l (price (nets_of s) (side_of l)) (rw (r.1, a, g))).fits

  misfit_of : Bytes l → is_short s l ≡ false → is_good s l ≡ false → Fits s l → ⊥
  unfolding priced given given_sound
  misfit_of h a g f =
      let good = price_answers s l h r f in
      let bad : priced s l ≡ Err Side = rw (r.1, a, g) in
      let z : ◌≡◌ {A = ℕ} 0 1 = cc in
      absurd (omega arith)

  fits_good : Bytes l → Fits s l → is_good s l ≡ true
  unfolding is_short
  fits_good h f = go (is_good s l) (misfit_of h (le-ltb (length l) (bytes_for (modules s)) f.enough))
    where
      go : (b : Bool) → (b ≡ false → Fits s l → ⊥) → b ≡ true
      go true n = refl
      go false n = absurd (n refl f)

-- ---- checks 11 to 13 of a flow zs that has a number for each pin

module _ (s : List ℕ) (h : Sound s) (l : List ℕ) (claim : ℕ) (zs : List ℤ) where
  abbrev cost : ℕ
  cost = price (nets_of s) (side_of l)

  abbrev equal : Bool
  equal = agree (value_sent s zs) (value_taken s zs) cost claim

  equal_certified : Fair (card_of s) zs → Fits s l → equal ≡ true → Certified (card_of s) zs (side_of l) claim
  unfolding agree
  equal_certified f x e =
      let a = (and-eq-true_iff (eqb (value_sent s zs) (value_taken s zs + cost)) (eqb cost claim)).0 e in
      let p : cost ≡ claim = eqb-true _ _ a.1 in
      record { fair = f; separates = x.separates; value_is = value_from s h zs cost (eqb-true _ _ a.0) ∙ ap pos p; price_is = p }

  certified_equal : Certified (card_of s) zs (side_of l) claim → equal ≡ true
  unfolding agree
  certified_equal q =
      rw (eq-eqb (value_sent s zs) (value_taken s zs + cost) (value_to s h zs cost (q.value_is ∙ ap pos (sym q.price_is))), eq-eqb cost claim q.price_is)

  judge_net : (n : ℕ) → check11 s zs ≡ Some n → checked_good s l zs claim ≡ Err (NetRule n)
  unfolding checked_good ruled_of
  judge_net n e = rw e

  module _ (e : check11 s zs ≡ None) where
    judge_module : (m : ℕ) → check12 s zs ≡ Some m → checked_good s l zs claim ≡ Err (ModuleRule m)
    unfolding checked_good ruled_of balance_of
    judge_module m g = rw (e, g)

    judge_values : check12 s zs ≡ None → equal ≡ false → checked_good s l zs claim ≡ Err Values
    unfolding checked_good ruled_of balance_of
    judge_values g t = rw (e, g, t)

    judge_accepted : check12 s zs ≡ None → equal ≡ true → checked_good s l zs claim ≡ Ok tt
    unfolding checked_good ruled_of balance_of
    judge_accepted g t = rw (e, g, t)

-- ---- exactly when

module _ (s l : List ℕ) (xs : List ℤ) (claim : ℕ) (h : Bytes l) where
  abbrev When : Result ⊤ Refusal → Type 0
  When (Ok _) = Accepts s l xs claim
  When (Err why) = Refuses s l xs claim why

  -- past checks 8 and 9 the needed part of the flow decides
  past : Presented s l xs → checked_of s l xs claim ≡ checked_good s l (needed s xs) claim
  unfolding checked_of checked_sound is_short_flow is_short checked_good
  past p =
      let r = p.reads in
      rw (r.1, le-ltb (length xs) (pins s) p.enough, le-ltb (length l) (bytes_for (modules s)) p.fits.enough, fits_good s l r h p.fits)
      (rw (one_ruled s (sound s r.0 r.1) xs (needed s xs) (sym (needed_needed s xs))))

  is_unread : {why : Refusal} → read_of s ≡ Err why → checked_of s l xs claim ≡ Err why
  unfolding checked_of
  is_unread e = rw e

  module _ (r : Reads s) where
    is-short : (is_short_flow s xs || is_short s l) ≡ true → checked_of s l xs claim ≡ Err Buffer
    unfolding checked_of checked_sound
    is-short e = rw (r.1, e)

    is_misfit : is_short_flow s xs ≡ false → is_short s l ≡ false → is_good s l ≡ false → checked_of s l xs claim ≡ Err Side
    unfolding checked_of checked_sound
    is_misfit a b g = rw (r.1, a, b, g)

  -- checks 11 to 13
  module _ (p : Presented s l xs) where
    whole : Sound s
    whole = sound s p.reads.0 p.reads.1

    judged_when : (f g : Option ℕ) (t : Bool) → check11 s (needed s xs) ≡ f → check12 s (needed s xs) ≡ g → equal s whole l claim (needed s xs) ≡ t → When (checked_of s l xs claim)
    judged_when (Some n) g t e d q =
        subst When (sym (past p ∙ judge_net s whole l claim (needed s xs) n e)) (net p (net_refused s (needed s xs) n e))
    judged_when None (Some m) t e d q =
        subst When (sym (past p ∙ judge_module s whole l claim (needed s xs) e m d)) (free p (nets_keep s (needed s xs) e) (module_refused s whole (needed s xs) m d))
    judged_when None None true e d q =
        let fair = passes_fair s whole (needed s xs) e d in
        subst When (sym (past p ∙ judge_accepted s whole l claim (needed s xs) e d q)) (record { presented = p; certified = equal_certified s whole l claim (needed s xs) fair p.fits q })
    judged_when None None false e d q =
        let fair = passes_fair s whole (needed s xs) e d in
        subst When (sym (past p ∙ judge_values s whole l claim (needed s xs) e d q)) (unequal p fair (λ c. true≢false (sym (certified_equal s whole l claim (needed s xs) c) ∙ q)))

  -- checks 8 and 9
  tested_when : (r : Reads s) (a b g : Bool) → is_short_flow s xs ≡ a → is_short s l ≡ b → is_good s l ≡ g → When (checked_of s l xs claim)
  unfolding is_short_flow is_short
  tested_when r true b g u v w = subst When (sym (is-short r (rw u))) (short r (inl (ltb-true _ _ u)))
  tested_when r false true g u v w = subst When (sym (is-short r (rw (u, v)))) (short r (inr (ltb-true _ _ v)))
  tested_when r false false false u v w = subst When (sym (is_misfit r u v w)) (misfit r (ltb-false _ _ u) (ltb-false _ _ v) (misfit_of s l r h v w))
  tested_when r false false true u v w = judged_when (record { reads = r; fits = fits_of s l r v w; enough = ltb-false _ _ u }) (check11 s (needed s xs)) (check12 s (needed s xs)) _ refl refl refl

  read_when : (r : Result Book Refusal) → read_of s ≡ r → When (checked_of s l xs claim)
  read_when (Ok b) e = tested_when (b, e) (is_short_flow s xs) (is_short s l) (is_good s l) refl refl refl
  read_when (Err why) e = subst When (sym (is_unread e)) (reader e)

  pub accepted_tells : checked_of s l xs claim ≡ Ok tt → Accepts s l xs claim
  accepted_tells e = subst When e (read_when (read_of s) refl)

  pub refused_tells : {why : Refusal} → checked_of s l xs claim ≡ Err why → Refuses s l xs claim why
  refused_tells e = subst When e (read_when (read_of s) refl)

  -- ---- and the other way round

  pub accepts_checked : Accepts s l xs claim → checked_of s l xs claim ≡ Ok tt
  accepts_checked a =
      let p = a.presented in
      let f = fair_passes s (whole p) (needed s xs) a.certified.fair in
      past p ∙ judge_accepted s (whole p) l claim (needed s xs) f.0 f.1 (certified_equal s (whole p) l claim (needed s xs) a.certified)

  either_short : (length xs < pins s) ⊎ (length l < bytes_for (modules s)) → (is_short_flow s xs || is_short s l) ≡ true
  unfolding is_short_flow is_short
  either_short (inl u) = rw (lt-ltb (length xs) (pins s) u)
  either_short (inr u) = rw (lt-ltb (length l) (bytes_for (modules s)) u) (or-true (ltb (length xs) (pins s)))

  is_bad : (r : Reads s) → is_short s l ≡ false → (Fits s l → ⊥) → (b : Bool) → is_good s l ≡ b → is_good s l ≡ false
  is_bad r v n true w = absurd (n (fits_of s l r v w))
  is_bad r v n false w = w

  is_unequal : (p : Presented s l xs) → Fair (card_of s) (needed s xs) → (Certified (card_of s) (needed s xs) (side_of l) claim → ⊥) → (t : Bool) →
      equal s (whole p) l claim (needed s xs) ≡ t → equal s (whole p) l claim (needed s xs) ≡ false
  is_unequal p f n true q = absurd (n (equal_certified s (whole p) l claim (needed s xs) f p.fits q))
  is_unequal p f n false q = q

  pub refuses_checked : {why : Refusal} → Refuses s l xs claim why → checked_of s l xs claim ≡ Err why
  unfolding is_short_flow is_short
  refuses_checked (reader e) = is_unread e
  refuses_checked (short r u) = is-short r (either_short u)
  refuses_checked (misfit r u v n) =
      let b = le-ltb (length l) (bytes_for (modules s)) v in
      is_misfit r (le-ltb (length xs) (pins s) u) b (is_bad r b n (is_good s l) refl)
  refuses_checked (net {n} p b) = past p ∙ judge_net s (whole p) l claim (needed s xs) n (refused_net s (needed s xs) n b)
  refuses_checked (free {m} p k b) =
      past p ∙ judge_module s (whole p) l claim (needed s xs) (keep_nets s (needed s xs) k) m (refused_module s (whole p) (needed s xs) m b)
  refuses_checked (unequal p f n) =
      let e = fair_passes s (whole p) (needed s xs) f in
      past p ∙ judge_values s (whole p) l claim (needed s xs) e.0 e.1 (is_unequal p f n _ refl)

  -- ---- what an accepted flow, side and price tell, whoever made them

  pub accepted_cheapest : checked_of s l xs claim ≡ Ok tt → Cheapest (card_of s) (side_of l) × (price (nets_of s) (side_of l) ≡ claim) × Greatest (card_of s) (needed s xs)
  accepted_cheapest e =
      let a = accepted_tells e in
      let v = card_valid s (whole a.presented) in
      let q = a.certified in
      (certified_cheapest (card_of s) v (needed s xs) (side_of l) claim q, q.price_is, certified_greatest (card_of s) v (needed s xs) (side_of l) claim q)

-- given one accepted answer, every cheapest side that fits with every greatest flow is accepted too, with that price
pub accepted_all : (s l k : List ℕ) (xs zs : List ℤ) (claim : ℕ) → Bytes l → Bytes k → checked_of s l xs claim ≡ Ok tt →
    Presented s k zs → Greatest (card_of s) (needed s zs) → Cheapest (card_of s) (side_of k) → checked_of s k zs claim ≡ Ok tt
accepted_all s l k xs zs claim h i e p g c =
    let a = accepted_tells s l xs claim h e in
    let v = card_valid s (sound s p.reads.0 p.reads.1) in
    accepts_checked s k zs claim i (record { presented = p; certified = certified_all (card_of s) v (needed s xs) (side_of l) claim a.certified (needed s zs) g (side_of k) c })

-- and with no other
pub accepted_once : (s l k : List ℕ) (xs zs : List ℤ) (claim other : ℕ) → Bytes l → Bytes k → checked_of s l xs claim ≡ Ok tt → checked_of s k zs other ≡ Ok tt → claim ≡ other
accepted_once s l k xs zs claim other h i e d =
    let a = accepted_tells s l xs claim h e in
    let b = accepted_tells s k zs other i d in
    let r = a.presented.reads in
    one_price (card_of s) (card_valid s (sound s r.0 r.1)) (needed s xs) (needed s zs) (side_of l) (side_of k) claim other a.certified b.certified

-- ---- by document 01's numbers

module _ (s l : List ℕ) (xs : List ℤ) (claim : ℕ) where
  -- the reader's are below 10
  low : {why : Refusal} → read_of s ≡ Err why → number_of why ≤ 9
  low e = refusals.to_nine s l (side.reader e)

  unread : {A : Type 0} {why : Refusal} → read_of s ≡ Err why → Reads s → A
  unread e r = let k = r.1 in let z : ◌≡◌ {A = ℕ} 0 1 = cc in absurd (omega arith)

  pub one_to_six : {why : Refusal} → Refuses s l xs claim why → number_of why ≤ 6 → read_of s ≡ Err why
  one_to_six (reader e) h = e
  one_to_six (short r u) h = absurd (omega arith)
  one_to_six (misfit r u v n) h = absurd (omega arith)
  one_to_six (net p b) h = absurd (omega arith)
  one_to_six (free p k b) h = absurd (omega arith)
  one_to_six (unequal p f n) h = absurd (omega arith)

  pub eight : {why : Refusal} → Refuses s l xs claim why → number_of why ≡ 8 → Reads s × ((length xs < pins s) ⊎ (length l < bytes_for (modules s)))
  eight (reader e) h = unread e (refusals.eight s l (side.reader e) h).0
  eight (short r u) h = (r, u)
  eight (misfit r u v n) h = absurd (omega arith)
  eight (net p b) h = absurd (omega arith)
  eight (free p k b) h = absurd (omega arith)
  eight (unequal p f n) h = absurd (omega arith)

  pub nine : {why : Refusal} → Refuses s l xs claim why → number_of why ≡ 9 → Reads s × (pins s ≤ length xs) × (bytes_for (modules s) ≤ length l) × (Fits s l → ⊥)
  nine (reader e) h = unread e (refusals.nine s l (side.reader e) h).0
  nine (short r u) h = absurd (omega arith)
  nine (misfit r u v n) h = (r, u, v, n)
  nine (net p b) h = absurd (omega arith)
  nine (free p k b) h = absurd (omega arith)
  nine (unequal p f n) h = absurd (omega arith)

  pub eleven : {why : Refusal} → Refuses s l xs claim why → number_of why ≡ 11 → Presented s l xs × BrokenNet s (needed s xs) (place_of why)
  eleven (reader e) h = absurd (omega (arith, low e))
  eleven (short r u) h = absurd (omega arith)
  eleven (misfit r u v n) h = absurd (omega arith)
  eleven (net p b) h = (p, b)
  eleven (free p k b) h = absurd (omega arith)
  eleven (unequal p f n) h = absurd (omega arith)

  pub twelve : {why : Refusal} → Refuses s l xs claim why → number_of why ≡ 12 →
      Presented s l xs × EachNet page.NetRule (nets_of s) (needed s xs) × BrokenModule s (needed s xs) (place_of why)
  twelve (reader e) h = absurd (omega (arith, low e))
  twelve (short r u) h = absurd (omega arith)
  twelve (misfit r u v n) h = absurd (omega arith)
  twelve (net p b) h = absurd (omega arith)
  twelve (free p k b) h = (p, k, b)
  twelve (unequal p f n) h = absurd (omega arith)

  pub thirteen : {why : Refusal} → Refuses s l xs claim why → number_of why ≡ 13 →
      Presented s l xs × Fair (card_of s) (needed s xs) × (Certified (card_of s) (needed s xs) (side_of l) claim → ⊥)
  thirteen (reader e) h = absurd (omega (arith, low e))
  thirteen (short r u) h = absurd (omega arith)
  thirteen (misfit r u v n) h = absurd (omega arith)
  thirteen (net p b) h = absurd (omega arith)
  thirteen (free p k b) h = absurd (omega arith)
  thirteen (unequal p f n) h = (p, f, n)
