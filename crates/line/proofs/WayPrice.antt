-- The price by ways is submodular and depends on a side at the pins alone. By `plainly` it is the price of the page. Assumes nothing.
use mathlib.Core.Path.{◌≡◌, refl, ap, ◌∙◌}
use mathlib.Core.Bool.{Bool, true, false, not, cond, ◌&&◌, ◌||◌}
use mathlib.Core.List.Memᴰ
use mathlib.Core.List.{List, [], ◌∷◌, Memᴰ}
use Prim.Native.Nat.{ℕ, suc, ◌+◌, ◌≤◌}
use native.Mathlib.Omega.{arith}
use lib.Dec.{T}
use Rattle.line.specs.Card.{Net, Side, outside, both, either, touches, crosses, cost, price, all_pins}
use Rattle.line.proofs.Ways.{Ways, plainly, later, meets, crosses_by, cost_by, price_by}
use Rattle.line.proofs.Bools.{and_l, and_r, not_or_l, not_or_r}

-- ---- tests

or_cases : (r a b : Bool) (c d : Bool) → ((r && (a || b)) || (c || d)) ≡ (((r && a) || c) || ((r && b) || d))
or_cases true true b c d = refl
or_cases true false true true d = refl
or_cases true false true false d = refl
or_cases true false false c d = refl
or_cases false a b c d = refl

out_both : (a b : Bool) → not (a && b) ≡ (not a || not b)
out_both true b = refl
out_both false b = refl

or_mono : (r a b c d : Bool) → (T a → T c) → (T b → T d) → T ((r && a) || b) → T ((r && c) || d)
or_mono true true b true d f g t = tt
or_mono true true b false d f g t = absurd (f tt)
or_mono true false b true d f g t = tt
or_mono true false b false d f g t = g t
or_mono false a b c d f g t = g t

-- ---- meeting

pub meets_mono : (r : ℕ → Bool) (s t : Side) → ((m : ℕ) → T (s m) → T (t m)) → (ps : List ℕ) → T (meets r s ps) → T (meets r t ps)
unfolding meets
meets_mono r s t f [] h = h
meets_mono r s t f (p ∷ ps) h = or_mono (r 0) (s p) (meets (λ i. r (suc i)) s ps) (t p) (meets (λ i. r (suc i)) t ps) (f p) (meets_mono (λ i. r (suc i)) s t f ps) h

pub meets_either : (r : ℕ → Bool) (s t : Side) (ps : List ℕ) → meets r (either s t) ps ≡ (meets r s ps || meets r t ps)
unfolding meets
meets_either r s t [] = refl
meets_either r s t (p ∷ ps) = rw (meets_either (λ i. r (suc i)) s t ps) (or_cases (r 0) (s p) (t p) (meets (λ i. r (suc i)) s ps) (meets (λ i. r (suc i)) t ps))

pub meets_same : (r : ℕ → Bool) (s t : Side) (ps : List ℕ) → ((m : ℕ) → Memᴰ m ps → s m ≡ t m) → meets r s ps ≡ meets r t ps
unfolding meets
meets_same r s t [] f = refl
meets_same r s t (p ∷ ps) f = rw (f p (Memᴰ.head refl), meets_same (λ i. r (suc i)) s t ps (λ m h. f m (Memᴰ.tail h)))

pub meets_out_both : (r : ℕ → Bool) (s t : Side) (ps : List ℕ) → meets r (outside (both s t)) ps ≡ (meets r (outside s) ps || meets r (outside t) ps)
meets_out_both r s t ps =
    meets_same r (outside (both s t)) (either (outside s) (outside t)) ps (λ m _. out_both (s m) (t m)) ∙ meets_either r (outside s) (outside t) ps

-- ---- submodularity, for one net: i and o say whether a pin is inside and outside

six_in : (w : ℕ) (b o p : Bool) → (T b → T o) → (T b → T p) → cond (o || p) w 0 + cond b w 0 ≤ cond o w 0 + cond p w 0
six_in w true true true f g = omega arith
six_in w true true false f g = absurd (g tt)
six_in w true false p f g = absurd (f tt)
six_in w false true true f g = omega arith
six_in w false true false f g = omega arith
six_in w false false true f g = omega arith
six_in w false false false f g = omega arith

six_out : (w : ℕ) (i j b o p : Bool) → (T b → T o) → (T b → T p) → 0 + cond ((i || j) && b) w 0 ≤ cond (i && o) w 0 + cond (j && p) w 0
six_out w false false b o p f g = omega arith
six_out w true j false o p f g = omega arith
six_out w false true false o p f g = omega arith
six_out w true j true true p f g = omega arith
six_out w true j true false p f g = absurd (f tt)
six_out w false true true o true f g = omega arith
six_out w false true true o false f g = absurd (g tt)

six : (w : ℕ) (a b i j o p : Bool) → (T a → T i) → (T a → T j) → (T b → T o) → (T b → T p) →
    cond (a && (o || p)) w 0 + cond ((i || j) && b) w 0 ≤ cond (i && o) w 0 + cond (j && p) w 0
six w true b true true o p e f g h = six_in w b o p g h
six w true b true false o p e f g h = absurd (f tt)
six w true b false j o p e f g h = absurd (e tt)
six w false b i j o p e f g h = six_out w i j b o p g h

pub cost_by_submodular : (r q : ℕ → Bool) (s t : Side) (n : Net) → cost_by r q (both s t) n + cost_by r q (either s t) n ≤ cost_by r q s n + cost_by r q t n
unfolding cost_by crosses_by
cost_by_submodular r q s t n =
    let ps = n.pins in
    rw (meets_out_both q s t ps, meets_either r s t ps)
    (six n.weight (meets r (both s t) ps) (meets q (outside (either s t)) ps) (meets r s ps) (meets r t ps) (meets q (outside s) ps) (meets q (outside t) ps)
    (meets_mono r (both s t) s (λ m. and_l (s m) (t m)) ps)
    (meets_mono r (both s t) t (λ m. and_r (s m) (t m)) ps)
    (meets_mono q (outside (either s t)) (outside s) (λ m. not_or_l (s m) (t m)) ps)
    (meets_mono q (outside (either s t)) (outside t) (λ m. not_or_r (s m) (t m)) ps))

pub submodular_by : (w : Ways) (ns : List Net) (s t : Side) → price_by w ns (both s t) + price_by w ns (either s t) ≤ price_by w ns s + price_by w ns t
unfolding price_by
submodular_by w [] s t = omega arith
submodular_by w (n ∷ ns) s t = omega (arith, cost_by_submodular (w.sends 0) (w.takes 0) s t n, submodular_by (later w) ns s t)

-- ---- a side counts at the pins alone

pub cost_by_same : (r q : ℕ → Bool) (s t : Side) (n : Net) → ((m : ℕ) → Memᴰ m n.pins → s m ≡ t m) → cost_by r q s n ≡ cost_by r q t n
unfolding cost_by crosses_by
cost_by_same r q s t n f = rw (meets_same r s t n.pins f, meets_same q (outside s) (outside t) n.pins (λ m h. ap not (f m h)))

pub price_by_same : (w : Ways) (ns : List Net) (s t : Side) → ((m : ℕ) → Memᴰ m (all_pins ns) → s m ≡ t m) → price_by w ns s ≡ price_by w ns t
unfolding price_by all_pins
price_by_same w [] s t f = refl
price_by_same w (n ∷ ns) s t f =
    rw (cost_by_same (w.sends 0) (w.takes 0) s t n (λ m h. f m (Memᴰ.append_left (all_pins ns) h)), price_by_same (later w) ns s t (λ m h. f m (Memᴰ.append_right n.pins h)))

-- ---- by plainly it is the price of the page Card

pub meets_touches : (s : Side) (ps : List ℕ) → meets (λ i. true) s ps ≡ touches s ps
unfolding meets touches
meets_touches s [] = refl
meets_touches s (p ∷ ps) = rw (meets_touches s ps)

pub cost_by_plain : (s : Side) (n : Net) → cost_by (λ i. true) (λ i. true) s n ≡ cost s n
unfolding cost_by crosses_by cost crosses
cost_by_plain s n = rw (meets_touches s n.pins, meets_touches (outside s) n.pins)

pub price_plain : (ns : List Net) (s : Side) → price_by plainly ns s ≡ price ns s
unfolding price_by price
price_plain [] s = refl
price_plain (n ∷ ns) s = rw (cost_by_plain s n, price_plain ns s)
