-- Some put into bytes, and then the text after it: one text (`put_then`). Assumes nothing.
use Rattle.std.specs.Prelude.{Some}
use Prim.Native.Nat.{ℕ, ◌+◌, ◌≤◌, ◌<◌}
use mathlib.Core.Path.{◌≡◌, refl, ap, ap₂, ◌∙◌}
use mathlib.Core.List.{List, [], ◌∷◌, ◌++◌}
use native.Mathlib.Omega.{arith}
use native.Mathlib.Nat.{le_refl}
use lib.ListN.{length, set, length-append}
use lib.Seq.{paste, paste-zero, length-paste}
use Rattle.book.proofs.Pasted.{paste_one, paste_then, paste_front}
use Rattle.view.specs.Listing.{Wrote}
use Rattle.view.specs.Puts.{Put}

-- nothing
pub put_none : (at : ℕ) (old : List ℕ) → Put [] at old at old
put_none at old = record { after = omega arith; stands = paste-zero old at [] }

-- a byte
pub put_one : (at b : ℕ) (old : List ℕ) → at < length old → Put (b ∷ []) at old (at + 1) (set old at b)
put_one at b old l = record { after = refl; stands = paste_one at b old l }

-- the same text in other words
pub put_as : {text other old new : List ℕ} {at r : ℕ} → text ≡ other → Put text at old r new → Put other at old r new
put_as {old = old} {at = at} e p = record { after = p.after ∙ ap (λ (t : List ℕ). at + length t) e; stands = p.stands ∙ ap (λ (t : List ℕ). paste old at t (length t)) e }

pub put_long : {text old new : List ℕ} {at r : ℕ} → at + length text ≤ length old → Put text at old r new → length new ≡ length old
put_long {text} {old} {new} {at} l p = ap length p.stands ∙ length-paste old at text (length text) l (le_refl (length text))

-- a text, and then another where it ends
pub put_then : {a b old mid new : List ℕ} {at n r : ℕ} → n ≤ length old → Put a at old n mid → Put b n mid r new → Put (a ++ b) at old r new
put_then {a} {b} {old} {mid} {new} {at} {n} l p q = record {
  after = omega (arith, p.after, q.after, length-append a b);
  stands =
      q.stands ∙ ap₂ (λ (d : List ℕ) (i : ℕ). paste d i b (length b)) p.stands p.after ∙ paste_then at a b old (omega (arith, l, p.after));
}

-- a text in front, with the tail kept
pub put_front : {P : List ℕ → Type 0} {text old new : List ℕ} {r : ℕ} → P text → Put text 0 old r new → Wrote P old (Some r) new
put_front {P} {text} {old} h p = record { text = text; prints = h; answer = ap Some (p.after ∙ omega arith); bytes = p.stands ∙ paste_front text old }
