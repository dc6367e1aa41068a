-- One list written over another at a place: an element (`paste_one`), one more of a list (`paste_more`), a list and then another where it ends (`paste_then`), and a list in front (`paste_front`).
-- Assumes nothing.
use Prim.Native.Nat.{ℕ, ◌+◌, ◌≤◌, ◌<◌}
use mathlib.Core.Path.{◌≡◌, sym, ap, ap₂, ◌∙◌}
use mathlib.Core.List.{List, [], ◌∷◌, ◌++◌, append_assoc}
use native.Mathlib.Numerals.{add-one}
use native.Mathlib.Omega.{arith}
use native.Mathlib.Nat.{le_refl}
use lib.ListN.{length, get_or, take, drop, set, length-append}
use lib.Seq.{take-length, drop-drop, paste, paste-zero, paste-suc, take-paste, drop-paste}

module _ {A : Type 0} where
  pub paste_one : (at : ℕ) (b : A) (d : List A) → at < length d → set d at b ≡ paste d at (b ∷ []) 1
  paste_one at b d l =
      let z : at + 0 ≡ at = omega arith in
      ap₂ (λ (d : List A) (i : ℕ). set d i b) (paste-zero d at (b ∷ [])) (sym z) ∙ paste-suc d at (b ∷ []) 0 b (omega arith) (omega arith)

  pub paste_more : (at i : ℕ) (x : A) (s d : List A) → at + i < length d → i < length s → set (paste d at s i) (at + i) (get_or s i x) ≡ paste d at s (i + 1)
  paste_more at i x s d l k = paste-suc d at s i x l k ∙ ap (paste d at s) (sym (add-one i))

  pub paste_then : (at : ℕ) (a b d : List A) → at + length a ≤ length d → paste (paste d at a (length a)) (at + length a) b (length b) ≡ paste d at (a ++ b) (length (a ++ b))
  paste_then at a b d l =
      let n = length a in
      let m = length b in
      let g : at + n + m ≡ at + length (a ++ b) = omega (arith, length-append a b) in
      let front : take (at + n) (paste d at a n) ≡ take at d ++ a = take-paste d at a n (omega arith) (le_refl n) ∙ ap (λ (t : List A). take at d ++ t) (take-length a) in
      let back : drop (at + n + m) (paste d at a n) ≡ drop (at + length (a ++ b)) d = sym (drop-drop m (at + n) (paste d at a n))
      ∙ ap (drop m) (drop-paste d at a n (omega arith) (le_refl n)) ∙ drop-drop m (at + n) d ∙ ap (λ (k : ℕ). drop k d) g in
      ap₂ (λ (p q : List A). p ++ take m b ++ q) front back ∙ ap (λ (t : List A). take at d ++ a ++ t ++ drop (at + length (a ++ b)) d) (take-length b)
      ∙ ap (λ (t : List A). t ++ drop (at + length (a ++ b)) d) (append_assoc (take at d) a b ∙ ap (λ (t : List A). take at d ++ t) (sym (take-length (a ++ b))))

  pub paste_front : (s d : List A) → paste d 0 s (length s) ≡ s ++ drop (length s) d
  paste_front s d =
      let z : 0 + length s ≡ length s = omega arith in
      ap₂ (λ (t : List A) (n : ℕ). t ++ drop n d) (take-length s) z
