-- A tally of the modules: it begins empty and grows by a pin. What its entries say of each module, and of the meter modules together. Assumes nothing.
use Prim.Native.Nat.{ℕ, zero, suc, ◌+◌, ◌*◌, ◌≤◌, ◌<◌}
use mathlib.Core.Path.{◌≡◌, refl, sym, ◌∙◌}
use mathlib.Core.Bool.{Bool, true, false, cond}
use mathlib.Core.List.{List, [], ◌∷◌}
use native.Mathlib.Decide.{ℕ_discrete}
use native.Mathlib.Omega.{arith}
use borrow.Author.Tests.{eq-eqb, ne_eqb}
use lib.Dec.{T}
use lib.IntN.{ℤ, pos}
use lib.ListN.{length, get_or, set, length-set}
use lib.Seq.{get_or-set_same, get_or-set_other}
use Rattle.line.specs.Flow.{sent, taken, only, meters}
use Rattle.book.specs.First.{lowest}
use Rattle.book.specs.Format.{modules, pins, pin}
use Rattle.book.specs.Checks.{most_modules, most_pins}
use Rattle.book.specs.Sound.{Sound}
use Rattle.book.specs.Cards.{card_of}
use Rattle.book.proofs.Firsts.{lowest_same}
use Rattle.book.proofs.CardLaws.{pin_under}
use Rattle.audit.specs.Rules.{sum_to, most_sent, bad_module_flow, check12}
use Rattle.audit.specs.Tallies.{Empty, TallyTo, Tally, Small, uneven, meters_to}
use Rattle.audit.proofs.Totals.{sum_none, sum_next, sum_same, sum_swap}

-- a fresh array: each entry is 0
abbrev pub blank : List ℕ → Bool
blank [] = true
blank (zero ∷ l) = blank l
blank (suc v ∷ l) = false

blank_none : (l : List ℕ) → T (blank l) → (m : ℕ) → get_or l m 0 ≡ 0
blank_none [] t m = refl
blank_none (zero ∷ l) t zero = refl
blank_none (zero ∷ l) t (suc m) = blank_none l t m
blank_none (suc v ∷ l) t m = absurd t

pub fresh_empty : (s : List ℕ) → Sound s → (l : List ℕ) → T (blank l) → length l ≡ most_modules → Empty s l
fresh_empty s h l t e = record { size = omega (arith, h.few_modules); none = λ m u. blank_none l t m }

module _ (s : List ℕ) (xs : List ℤ) (f : ℤ → ℕ) where
  -- what pin p adds to module m
  abbrev part : ℕ → ℕ → ℕ
  part m p = cond (only m (pin s p)) (f (get_or xs p (pos 0))) 0

  pub tally_none : (l : List ℕ) → Empty s l → TallyTo s xs f 0 l
  tally_none l e = record { size = e.size; sums = λ m h. e.none m h ∙ sum_none (part m); fits = λ m h. omega (arith, e.none m h) }

  -- at pin k, module m's
  module _ (h : Sound s) (k : ℕ) (l : List ℕ) (t : TallyTo s xs f k l) (next : k < pins s) (m : ℕ) (of : m ≡ pin s k) where
    under : m < modules s
    under = rw of (pin_under s h k next)

    pub room : (m < length l) × (get_or l m 0 ≤ most_sent * most_pins)
    room = (omega (arith, under, t.size), omega (arith, t.fits m under, h.few_pins))

    -- one pin more
    module _ (v : ℕ) (is : v ≡ f (get_or xs k (pos 0))) (low : v ≤ most_sent) where
      abbrev grown : List ℕ
      grown = set l m (get_or l m 0 + v)

      abbrev Right : ℕ → Type 0
      Right i = (get_or grown i 0 ≡ sum_to (part i) (k + 1)) × (get_or grown i 0 ≤ most_sent * (k + 1))

      right : (i : ℕ) → i < modules s → Dec (i ≡ m) → Right i
      right i u (yes e) =
          let at : get_or grown i 0 ≡ get_or l i 0 + v = rw e (get_or-set_same l m (get_or l m 0 + v) 0 room.0) in
          let here : part i k ≡ v = rw (eq-eqb (pin s k) i (sym of ∙ sym e)) (sym is) in
          (omega (arith, at, here, sum_next (part i) k, t.sums i u), omega (arith, at, t.fits i u))
      right i u (no n) =
          let at : get_or grown i 0 ≡ get_or l i 0 = get_or-set_other l m i (get_or l m 0 + v) 0 n in
          let here : part i k ≡ 0 = rw (ne_eqb (pin s k) i (λ e. n (sym e ∙ sym of))) in
          (omega (arith, at, here, sum_next (part i) k, t.sums i u), omega (arith, at, t.fits i u))

      grows : TallyTo s xs f (k + 1) grown
      grows = record {
        size = omega (arith, t.size, length-set l m (get_or l m 0 + v));
        sums = λ i u. (right i u (ℕ_discrete i m)).0;
        fits = λ i u. (right i u (ℕ_discrete i m)).1;
      }

      pub tally_more : (g : List ℕ) → g ≡ grown → (length g ≡ length l) × TallyTo s xs f (k + 1) g
      tally_more g e = rw e (length-set l m (get_or l m 0 + v), grows)

-- ---- what a whole tally says

module _ (s : List ℕ) (h : Sound s) (xs : List ℤ) where
  pub tally_small : (f : ℤ → ℕ) (l : List ℕ) → Tally s xs f l → Small s l
  tally_small f l t = record { size = t.size; fits = λ m u. omega (arith, t.fits m u, h.few_pins) }

  -- free modules: the two sums differ where the module rule is broken
  pub tally_uneven : (a b : List ℕ) → Tally s xs sent a → Tally s xs taken b → lowest (uneven s a b) (modules s) ≡ check12 s xs
  unfolding check12 bad_module_flow
  tally_uneven a b p q = lowest_same (uneven s a b) (bad_module_flow s xs) (modules s) (λ m u. rw (p.sums m u, q.sums m u))

  -- meter modules: their entries added up are their pins' numbers added up
  pub tally_meters : (f : ℤ → ℕ) (l : List ℕ) → Tally s xs f l →
      meters_to s l (modules s) ≡ sum_to (λ p. cond (meters (card_of s) (pin s p)) (f (get_or xs p (pos 0))) 0) (pins s)
  tally_meters f l t =
      sum_same (λ m. cond (meters (card_of s) m) (get_or l m 0) 0) (λ m. cond (meters (card_of s) m) (sum_to (part s xs f m) (pins s)) 0) (modules s) (λ m u. rw (t.sums m u))
      ∙ sum_swap (meters (card_of s)) (pin s) (λ p. f (get_or xs p (pos 0))) (modules s) (pins s) (pin_under s h)
