-- The card that the loaded slices are is the book's card, with whatever marks: what is near, far or fair on the one is so on the other, at the same price and value.
-- Assumes nothing.
use Rattle.std.specs.Prelude.{◌≡◌, ℕ, ◌+◌, ◌-◌, ◌<◌, ◌≤◌, eqb, List, [], ◌∷◌, length, get_or, take, drop, ℤ}
use mathlib.Core.Path.{refl, sym, ap, ◌∙◌, subst}
use mathlib.Core.List.{Memᴰ}
use native.Mathlib.Omega.{arith}
use native.Mathlib.Nat.{zero-add}
use lib.ListN.{length-drop}
use lib.Seq.{ext_get_or, get_or-take, get_or-drop, length-take-le}
use Rattle.line.specs.Card.{Net, Card, Side, price, all_pins, Alike, Near, Far, remark}
use Rattle.line.specs.Flow.{EachNet, NetRule, Fair, value, flow_at, meters}
use Rattle.line.proofs.Index.{no_net}
use Rattle.line.proofs.Lattice.{Same, nearest_same, farthest_same}
use Rattle.line.proofs.Cheap.{cut, to_near, of_near, to_far, of_far}
use Rattle.book.specs.Format.{modules, nets, pins, weight, pin, pin_count, first_pin}
use Rattle.book.specs.Listed.{listed}
use Rattle.book.specs.Sound.{Sound}
use Rattle.book.specs.Cards as book
use Rattle.book.proofs.Elements.{length_listed, get_or_listed}
use Rattle.book.proofs.CardLaws as laws
use Rattle.flow.specs.Cards.{card_of, nets_from, Laid}
use Rattle.flow.proofs.CardLaws.{from-length, from_at}
use Rattle.split.proofs.Loads.{first-zero, first_most}

-- the slices as they are loaded
abbrev pub firsts_of : List ℕ → List ℕ
firsts_of s = listed (first_pin s) (nets s + 1)

abbrev pub mods_of : List ℕ → List ℕ
mods_of s = listed (pin s) (pins s)

abbrev pub weights_of : List ℕ → List ℕ
weights_of s = listed (weight s) (nets s)

module _ (s : List ℕ) (h : Sound s) where
  first_at : (n : ℕ) → n ≤ nets s → get_or (firsts_of s) n 0 ≡ first_pin s n
  first_at n l = get_or_listed (first_pin s) (nets s + 1) n 0 (omega arith)

  -- the pins of net e
  pins_at : (e : ℕ) → e < nets s → take (get_or (firsts_of s) (e + 1) 0 - get_or (firsts_of s) e 0) (drop (get_or (firsts_of s) e 0) (mods_of s)) ≡ book.pins_of s e
  pins_at e l =
      let a = first_at e (omega arith) in
      let b = first_at (e + 1) (omega arith) in
      let g = laws.first_pin-suc s e in
      let k : get_or (firsts_of s) (e + 1) 0 - get_or (firsts_of s) e 0 ≡ pin_count s e = omega (arith, a, b, g) in
      let most = first_most s h (e + 1) (omega arith) in
      let long : pin_count s e ≤ length (drop (first_pin s e) (mods_of s)) = omega (arith, length-drop (first_pin s e) (mods_of s), length_listed (pin s) (pins s), g, most) in
      let size = length-take-le (pin_count s e) (drop (first_pin s e) (mods_of s)) long in
      rw (k, a)
      (ext_get_or 0 (take (pin_count s e) (drop (first_pin s e) (mods_of s))) (book.pins_of s e) (size ∙ sym (laws.pins-length s e))
      (λ j i.
      let u : j < pin_count s e = omega (arith, i, size) in
      get_or-take (pin_count s e) (drop (first_pin s e) (mods_of s)) j 0 u ∙ get_or-drop (first_pin s e) (mods_of s) j 0
      ∙ get_or_listed (pin s) (pins s) (first_pin s e + j) 0 (omega (arith, g, most)) ∙ sym (laws.pins_at s e j u)))

  pub nets_same : nets_from (firsts_of s) (mods_of s) 0 (weights_of s) ≡ book.nets_of s
  nets_same =
      let n = length_listed (weight s) (nets s) in
      ext_get_or no_net (nets_from (firsts_of s) (mods_of s) 0 (weights_of s)) (book.nets_of s)
      (from-length (firsts_of s) (mods_of s) 0 (weights_of s) ∙ n ∙ sym (laws.nets-length s))
      (λ e i.
      let l : e < nets s = omega (arith, i, from-length (firsts_of s) (mods_of s) 0 (weights_of s), n) in
      from_at (firsts_of s) (mods_of s) 0 (weights_of s) e (omega (arith, n)) ∙ rw (zero-add e)
      (λ t. record { weight = get_or_listed (weight s) (nets s) e 0 l t; pins = pins_at e l t }) ∙ sym (laws.net-at s e l))

-- a sum over the pins of a side asks of the side at the pins alone
flow_at_same : (x y : Side) (ps : List ℕ) (xs : List ℤ) → ((m : ℕ) → Memᴰ m ps → x m ≡ y m) → flow_at x ps xs ≡ flow_at y ps xs
unfolding flow_at
flow_at_same x y [] xs e = refl
flow_at_same x y (p ∷ ps) [] e = refl
flow_at_same x y (p ∷ ps) (z ∷ xs) e = rw (e p (Memᴰ.head refl), flow_at_same x y ps xs (λ m i. e m (Memᴰ.tail i)))

-- the slices with the marks mk are the book's card with the marks k
module _ (s : List ℕ) (h : Sound s) (mk : List ℕ) (k : ℕ → ℕ) (long : length mk ≡ modules s) (alike : Alike (modules s) (λ m. get_or mk m 0) k) where
  abbrev pub slices : Card
  slices = card_of (firsts_of s) (mods_of s) (weights_of s) mk

  abbrev pub marked : Card
  marked = remark (book.card_of s) k

  pub price_slices : (x : Side) → price slices.nets x ≡ price (book.nets_of s) x
  unfolding card_of
  price_slices x = ap (λ (ns : List Net). price ns x) (nets_same s h)

  same : Same slices marked (cut slices) (cut marked)
  unfolding card_of
  same = record { modules = long; marks = λ m l. alike m (omega (arith, long)); prices = price_slices }

  pub near_slices : (x : Side) → Near slices x → Near marked x
  near_slices x p = of_near marked x (nearest_same same x (to_near slices x p))

  pub far_slices : (x : Side) → Far slices x → Far marked x
  far_slices x p = of_far marked x (farthest_same same x (to_far slices x p))

  pub fair_slices : (xs : List ℤ) → Fair slices xs → Fair marked xs
  unfolding card_of
  fair_slices xs p = record {
    nets = subst (λ (ns : List Net). EachNet NetRule ns xs) (nets_same s h) p.nets;
    modules = λ m l e. ap (λ (ns : List Net). flow_at (λ i. eqb i m) (all_pins ns) xs) (sym (nets_same s h)) ∙ p.modules m (omega (arith, long)) (alike m l ∙ e);
  }

  pub value_slices : (xs : List ℤ) → value slices xs ≡ value marked xs
  unfolding card_of value
  value_slices xs =
      ap (λ (ns : List Net). flow_at (meters slices) (all_pins ns) xs) (nets_same s h)
      ∙ flow_at_same (meters slices) (meters marked) (all_pins (book.nets_of s)) xs
      (λ m i. ap (λ (n : ℕ). eqb n 1) (alike m ((laws.card_valid s h).pins m i)))

  pub slices_laid : ((m : ℕ) → m < modules s → k m ≤ 2) → Laid (firsts_of s) (mods_of s) (weights_of s) mk
  slices_laid low = record {
    firsts = length_listed (first_pin s) (nets s + 1) ∙ ap (λ (n : ℕ). n + 1) (sym (length_listed (weight s) (nets s)));
    begins = first_at s h 0 (omega arith) ∙ sym (first-zero s);
    rises = λ n l. let i : n < nets s = omega (arith, length_listed (weight s) (nets s)) in omega (arith, first_at s h n (omega arith), first_at s h (n + 1) (omega arith), laws.first_pin-suc s n);
    ends = ap (λ (n : ℕ). get_or (firsts_of s) n 0) (length_listed (weight s) (nets s)) ∙ first_at s h (nets s) (omega arith) ∙ h.pins_all ∙ sym (length_listed (pin s) (pins s));
    below = λ p l. let i : p < pins s = omega (arith, length_listed (pin s) (pins s)) in omega (arith, get_or_listed (pin s) (pins s) p 0 i, laws.pin_under s h p i, long);
    marks = λ m l. omega (arith, alike m (omega (arith, long)), low m (omega (arith, long)));
  }
