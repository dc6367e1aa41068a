-- What an answer of the split tells, and that it is a price exactly where the book reads and no lent buffer is short; else the refusal of document 01, with nothing written.
-- Assumes nothing.
use Rattle.book.specs.declared.Book.{Book}
use Rattle.std.specs.Prelude.{◌≡◌, ℕ, ◌≤◌, Bool, true, false, List, [], Result, Ok, Err}
use mathlib.Core.Path.{refl, sym, ap, subst, ◌∙◌}
use mathlib.Core.Bool.{true≢false}
use native.Mathlib.Omega.{arith}
use Rattle.book.specs.declared.Refusal.{Refusal}
use Rattle.book.specs.declared.Refusal.TheVariants.{Buffer}
use Rattle.book.specs.Checks.{read_of}
use Rattle.book.specs.Answer.{number_of}
use Rattle.book.proofs.Sound.{sound}
use Rattle.side.specs.Given as given
use Rattle.side.specs.Given.{Reads}
use Rattle.side.proofs.Refusals as refusals
use Rattle.split.specs.Splits.{Buffers, too_short, Holds, Kept, Room, SplitIf, SplitBy, Split}
use Rattle.split.specs.Verdicts.{Lacks, Told, Refuses, reader, short}
use Rattle.split.proofs.Held.{room_of}
use Rattle.split.proofs.Shorts.{short_lacks, lacks_short, room_long}

-- a price is no refusal
no_price : {A : Type 0} (p : ℕ) (why : Refusal) → Ok p ≡ Err why → A
no_price p why e = let z : ◌≡◌ {A = ℕ} 0 1 = cc in absurd (omega arith)

-- a book that reads is not refused by the reader
unread : {A : Type 0} {why : Refusal} (s : List ℕ) → read_of s ≡ Err why → Reads s → A
unread s e r = let k = r.1 in let z : ◌≡◌ {A = ℕ} 0 1 = cc in absurd (omega arith)

module _ (s : List ℕ) (old new : Buffers) where
  -- ---- a price

  module _ (p : ℕ) where
    tells_if : (r : Reads s) (b : Bool) → too_short s old ≡ b → SplitIf b s old (Ok p) new → Told s p old new
    tells_if r true e k = no_price p Buffer k.refused
    tells_if r false e d =
        let a = d.answer in
        let u : d.at_price ≡ p = cc in
        let h = sound s r.0 r.1 in
        record { reads = r; sound = h; room = room_of s old h e; holds = subst (λ (n : ℕ). Holds s n old new) u d.holds }

    tells_by : (r : Result Book Refusal) → read_of s ≡ r → SplitBy r s old (Ok p) new → Told s p old new
    tells_by (Ok b) e k = tells_if (b, e) (too_short s old) refl k
    tells_by (Err why) e k = no_price p why k.refused

    pub split_tells : Split s old (Ok p) new → Told s p old new
    split_tells k = tells_by (read_of s) refl k

    pub told_split : Told s p old new → Split s old (Ok p) new
    told_split t = rw t.reads.1 (rw (room_long s old t.room) (record { at_price = p; answer = refl; holds = t.holds }))

  -- ---- a refusal

  module _ (why : Refusal) where
    refused_if : Reads s → (b : Bool) → too_short s old ≡ b → SplitIf b s old (Err why) new → Refuses s old why
    refused_if r true e k = let a = k.refused in let u : Buffer ≡ why = cc in subst (Refuses s old) u (short r (short_lacks s old e))
    refused_if r false e d = no_price d.at_price why (sym d.answer)

    refused_by : (r : Result Book Refusal) → read_of s ≡ r → SplitBy r s old (Err why) new → Refuses s old why
    refused_by (Ok b) e k = refused_if (b, e) (too_short s old) refl k
    refused_by (Err w) e k = let a = k.refused in let u : w ≡ why = cc in reader (e ∙ ap Err u)

    pub split_refused : Split s old (Err why) new → Refuses s old why
    split_refused k = refused_by (read_of s) refl k

  -- ---- exactly when

  -- where document 01 refuses, this is the answer, and nothing is written
  pub refuses_split : {why : Refusal} (r : Result ℕ Refusal) → Refuses s old why → Split s old r new → Kept why old r new
  refuses_split r (reader e) k = rw e at k
  refuses_split r (short g f) k = let h : SplitBy (Ok g.0) s old r new = rw g.1 at k in rw (lacks_short s old f) at h

  -- and else a price
  pub record Priced (r : Result ℕ Refusal) : Type 0 where
    pub at_price : ℕ
    pub answer : r ≡ Ok at_price

  pub split_prices : (r : Result ℕ Refusal) → Reads s → Room s old.near old.far old.flow → Split s old r new → Priced r
  split_prices (Ok p) g e k = record { at_price = p; answer = refl }
  split_prices (Err why) g e k = go (split_refused why k)
    where
      go : {why : Refusal} → Refuses s old why → Priced (Err why)
      go (reader f) = unread s f g
      go (short r f) = absurd (true≢false (sym (lacks_short s old f) ∙ room_long s old e))

-- ---- by document 01's numbers

module _ (s : List ℕ) (old : Buffers) where
  pub one_to_six : {why : Refusal} → Refuses s old why → number_of why ≤ 6 → read_of s ≡ Err why
  one_to_six (reader e) h = e
  one_to_six (short r f) h = absurd (omega arith)

  pub eight : {why : Refusal} → Refuses s old why → number_of why ≡ 8 → Reads s × Lacks s old
  eight (reader e) h = unread s e (refusals.eight s [] (given.reader e) h).0
  eight (short r f) h = (r, f)

  -- and with no number above
  pub to_eight : {why : Refusal} → Refuses s old why → number_of why ≤ 8
  to_eight {why} (reader e) = let n : number_of why ≡ 9 → ⊥ = λ h. unread s e (refusals.nine s [] (given.reader e) h).0 in omega (arith, n, refusals.to_nine s [] (given.reader e))
  to_eight (short r f) = omega arith
