-- One module more, picked or not.
use Rattle.std.proofs.Common.{◌≡◌, ℕ, ◌+◌, Bool, true, false, [], ◌∷◌, ◌++◌, sym, ap, append-nil, ◌∙◌}
use native.Mathlib.Numerals.{unary_clauses}
use Rattle.std.specs.Fmt.{decimal}
use Rattle.std.specs.Prelude.{if◌then◌else◌}
use Rattle.trial.specs.Said.{picked_text}

pub picked_more : (pick : ℕ → Bool) (n : ℕ) → pick n ≡ true → picked_text pick n ++ (32 ∷ decimal n) ≡ picked_text pick (n + 1)
picked_more pick n there = simp unary_clauses (ap (λ (b : Bool). picked_text pick n ++ (if b then 32 ∷ decimal n else [])) (sym there))

pub picked_less : (pick : ℕ → Bool) (n : ℕ) → pick n ≡ false → picked_text pick n ≡ picked_text pick (n + 1)
picked_less pick n lacking =
    simp unary_clauses (sym (append-nil (picked_text pick n)) ∙ ap (λ (b : Bool). picked_text pick n ++ (if b then 32 ∷ decimal n else [])) (sym lacking))
