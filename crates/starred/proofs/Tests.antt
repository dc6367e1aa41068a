-- Tests of equality that compute: where one passes, two values are one. Assumes nothing.
use mathlib.Core.Path.{◌≡◌, refl, sym, ap, ap₂, ◌∙◌}
use mathlib.Core.Bool.{Bool, true, false, ◌&&◌, beq}
use mathlib.Core.List.{List, [], ◌∷◌}
use Prim.Native.Nat.{ℕ, zero, suc}
use lib.Dec.{T, eqb, eqb→eq}
use lib.IntN.{ℤ, pos, negsuc}
use lib.Ieee.{Float, nan, inf, fin}
use Rattle.line.proofs.Bools.{and_l, and_r}

pub record Test (A : Type 0) : Type 0 where
  pub same : A → A → Bool
  pub tells : (a b : A) → T (same a b) → a ≡ b

abbrev pub number : Test ℕ
number = record { same = eqb; tells = eqb→eq }

pub bool_tells : (a b : Bool) → T (beq a b) → a ≡ b
bool_tells true true t = refl
bool_tells true false t = absurd t
bool_tells false true t = absurd t
bool_tells false false t = refl

abbrev pub bool : Test Bool
bool = record { same = beq; tells = bool_tells }

abbrev same_integer : ℤ → ℤ → Bool
same_integer (pos m) (pos n) = eqb m n
same_integer (pos m) (negsuc n) = false
same_integer (negsuc m) (pos n) = false
same_integer (negsuc m) (negsuc n) = eqb m n

pub integer_tells : (a b : ℤ) → T (same_integer a b) → a ≡ b
integer_tells (pos m) (pos n) t = ap pos (eqb→eq m n t)
integer_tells (pos m) (negsuc n) t = absurd t
integer_tells (negsuc m) (pos n) t = absurd t
integer_tells (negsuc m) (negsuc n) t = ap negsuc (eqb→eq m n t)

abbrev pub integer : Test ℤ
integer = record { same = same_integer; tells = integer_tells }

-- ---- tests of what is made of parts

module _ {A B : Type 0} (p : Test A) (q : Test B) where
  abbrev same_pair : A × B → A × B → Bool
  same_pair a b = p.same a.0 b.0 && q.same a.1 b.1

  pub pair_tells : (a b : A × B) → T (same_pair a b) → a ≡ b
  pair_tells a b t =
      let e = p.tells a.0 b.0 (and_l (p.same a.0 b.0) (q.same a.1 b.1) t) in
      let f = q.tells a.1 b.1 (and_r (p.same a.0 b.0) (q.same a.1 b.1) t) in
      λ i. (e i, f i)

  abbrev pub pair : Test (A × B)
  pair = record { same = same_pair; tells = pair_tells }

module _ {A : Type 0} (p : Test A) where
  abbrev same_list : List A → List A → Bool
  same_list [] [] = true
  same_list [] (y ∷ ys) = false
  same_list (x ∷ xs) [] = false
  same_list (x ∷ xs) (y ∷ ys) = p.same x y && same_list xs ys

  pub list_tells : (a b : List A) → T (same_list a b) → a ≡ b
  list_tells [] [] t = refl
  list_tells [] (y ∷ ys) t = absurd t
  list_tells (x ∷ xs) [] t = absurd t
  list_tells (x ∷ xs) (y ∷ ys) t = ap₂ (λ (x : A) (xs : List A). x ∷ xs) (p.tells x y (and_l (p.same x y) (same_list xs ys) t)) (list_tells xs ys (and_r (p.same x y) (same_list xs ys) t))

  abbrev pub list : Test (List A)
  list = record { same = same_list; tells = list_tells }

-- values that are their parts
module _ {A B : Type 0} (f : A → B) (g : B → A) (whole : (a : A) → g (f a) ≡ a) (p : Test B) where
  pub by_tells : (a b : A) → T (p.same (f a) (f b)) → a ≡ b
  by_tells a b t = sym (whole a) ∙ ap g (p.tells (f a) (f b) t) ∙ whole b

  abbrev pub by : Test A
  by = record { same = λ a b. p.same (f a) (f b); tells = by_tells }

-- ---- doubles

-- which of the three a double is, with its sign, its digits and its exponent
abbrev taken_apart : Float → (ℕ × Bool) × (ℕ × ℤ)
taken_apart nan = ((0, false), (0, pos 0))
taken_apart (inf s) = ((1, s), (0, pos 0))
taken_apart (fin s m e) = ((2, s), (m, e))

abbrev made : ℕ → Bool → ℕ → ℤ → Float
made zero s m e = nan
made (suc zero) s m e = inf s
made (suc (suc k)) s m e = fin s m e

abbrev put_together : (ℕ × Bool) × (ℕ × ℤ) → Float
put_together p = made p.0.0 p.0.1 p.1.0 p.1.1

pub float_whole : (x : Float) → put_together (taken_apart x) ≡ x
float_whole nan = refl
float_whole (inf s) = refl
float_whole (fin s m e) = refl

abbrev pub float : Test Float
float = by taken_apart put_together float_whole (pair (pair number bool) (pair number integer))
