-- The marks after a round, module by module (`pinned_put`, `pinned_leave`), and the free modules counted (`free_more`). Assumes nothing.
use Rattle.std.specs.Prelude.{◌≡◌, ℕ, ◌+◌, ◌<◌, ◌≤◌, Bool, true, false, cond, ◌&&◌, eqb, List, length, get_or, set}
use mathlib.Core.Path.{refl, sym, ap, ◌∙◌}
use mir.Val.{bool_byte}
use native.Mathlib.Numerals.{add-one}
use native.Mathlib.Omega.{arith}
use native.Mathlib.Decide.{ℕ_discrete}
use lib.ListN.{length-set}
use lib.Seq.{get_or-set_same, get_or-set_other}
use Rattle.line.specs.Card.{Side, area_to, pin}
use Rattle.walk.specs.Walk.{free_in, free_to}
use Rattle.walk.specs.Parts.{marks_of, Pinned}

-- one module more, put or left
module _ (n : ℕ) (y : Side) (i : ℕ) (old l : List ℕ) (b : Bool) (u : i < length old) (e : b ≡ free_in (marks_of l) y i) (h : Pinned n y i old l) where
  same : get_or l i 0 ≡ get_or old i 0
  same = h.rest i (λ q. omega arith)

  pinned_here : cond b n (get_or l i 0) ≡ pin n y (marks_of old) i
  unfolding pin
  pinned_here = ap (λ (d : Bool). cond d n (get_or l i 0)) e ∙ ap (λ (k : ℕ). cond (y i && eqb k 0) n k) same

  pub pinned_put : b ≡ true → Pinned n y (i + 1) old (set l i n)
  pinned_put t = record {
    long = length-set l i n ∙ h.long;
    done = λ m v. done m v (ℕ_discrete m i);
    rest = λ m v. get_or-set_other l i m n 0 (λ q. v (omega arith)) ∙ h.rest m (λ q. v (omega arith));
  }
    where
      done : (m : ℕ) → m < i + 1 → Dec (m ≡ i) → get_or (set l i n) m 0 ≡ pin n y (marks_of old) m
      done m v (yes q) = rw q (get_or-set_same l i n 0 (omega (arith, h.long)) ∙ ap (λ (d : Bool). cond d n (get_or l i 0)) (sym t) ∙ pinned_here)
      done m v (no q) = get_or-set_other l i m n 0 q ∙ h.done m (omega (arith, q))

  pub pinned_leave : b ≡ false → Pinned n y (i + 1) old l
  pinned_leave t = record {
    long = h.long;
    done = λ m v. done m v (ℕ_discrete m i);
    rest = λ m v. h.rest m (λ q. v (omega arith));
  }
    where
      done : (m : ℕ) → m < i + 1 → Dec (m ≡ i) → get_or l m 0 ≡ pin n y (marks_of old) m
      done m v (yes q) = rw q (ap (λ (d : Bool). cond d n (get_or l i 0)) (sym t) ∙ pinned_here)
      done m v (no q) = h.done m (omega (arith, q))

pub none_free : (k : ℕ → ℕ) → 0 ≡ free_to k 0
unfolding area_to
none_free k = refl

counts : (b : Bool) → (bool_byte b ≡ cond b 1 0) × (bool_byte b ≤ 1)
counts true = (refl, omega arith)
counts false = (refl, omega arith)

pub free_more : (k : ℕ → ℕ) (m n z : ℕ) → n ≡ k m → z ≡ bool_byte (eqb n 0) → (free_to k (m + 1) ≡ free_to k m + z) × (z ≤ 1)
unfolding area_to
free_more k m n z e f =
    let c = counts (eqb n 0) in
    (rw (add-one m) (ap (λ (d : ℕ). free_to k m + d) (ap (λ (i : ℕ). cond (eqb i 0) 1 0) (sym e) ∙ sym c.0 ∙ sym f)), rw f c.1)
