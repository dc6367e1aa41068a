-- Between a book's numbers (`first_pin`, `pin_count`, `pin`) and its card's lists (`net_at`, `start`, `all_pins`); and a sound book has a valid card. Assumes nothing.
use Prim.Native.Nat.{ℕ, zero, suc, ◌+◌, ◌-◌, ◌≤◌, ◌<◌}
use mathlib.Core.Path.{◌≡◌, refl, sym, ap, ◌∙◌}
use mathlib.Core.Bool.{Bool, true, false, not, ◌||◌}
use mathlib.Core.List.{List}
use native.Mathlib.Nat.{le_refl, not-suc-le-zero}
use native.Mathlib.Numerals.{add-one}
use native.Mathlib.Decide.{le_ind}
use native.Mathlib.Omega.{arith}
use lib.Dec.{T, leb, leb→le, nleb→lt}
use lib.IntN.{ℤ}
use lib.ListN.{length, get_or, take, drop}
use lib.Seq.{ext_get_or, take_all}
use Rattle.line.specs.Card.{Net, Side, touches, cost, price, all_pins}
use Rattle.book.specs.Listed.{listed}
use Rattle.book.proofs.Elements.{length_listed, get_or_listed, mem_listed}
use Rattle.line.proofs.Index.{no_net, net_at, start, numbers, pin_at, start-suc, start_all, price-suc, touches-suc}
use Rattle.line.proofs.Duality.{Valid}
use Rattle.book.specs.Format.{modules, nets, pins, pin_count, pin, first_pin}
use Rattle.book.specs.Sound.{Sound}
use Rattle.book.specs.Cards.{pin_of, pins_of, net_of, nets_of, card_of}

module _ (s : List ℕ) where
  -- ---- places in the pin body

  -- the pins of the nets before n come before those of the nets after it
  pub first_pin_mono : (n m : ℕ) → n ≤ m → first_pin s n ≤ first_pin s m
  unfolding first_pin
  first_pin_mono n m l = le_ind {n = n} (λ k. first_pin s n ≤ first_pin s k) (le_refl _) (λ k _ h. omega arith) m l

  -- pin j of net n stands before the pins of net m, for n before m
  pub pin_before : (n m j : ℕ) → n < m → j < pin_count s n → first_pin s n + j < first_pin s m
  unfolding first_pin
  pin_before n m j l k = omega (arith, first_pin_mono (suc n) m l)

  -- one net more, as a loop goes
  pub first_pin-suc : (n : ℕ) → first_pin s (n + 1) ≡ first_pin s n + pin_count s n
  unfolding first_pin
  first_pin-suc n = rw add-one

  -- every place before the pins of net n is one in a net before it
  pub record InNet (n p : ℕ) : Type 0 where
    pub net : ℕ
    pub at : ℕ
    pub under : net < n
    pub within : at < pin_count s net
    pub place : p ≡ first_pin s net + at

  pub net-of : (n p : ℕ) → p < first_pin s n → InNet n p
  unfolding first_pin
  net-of zero p l = absurd (not-suc-le-zero l)
  net-of (suc n) p l = go (leb (first_pin s n) p) (leb→le (first_pin s n) p) (nleb→lt (first_pin s n) p) (net-of n p)
    where
      go : (b : Bool) → (T b → first_pin s n ≤ p) → (T (not b) → p < first_pin s n) → (p < first_pin s n → InNet n p) → InNet (suc n) p
      go true f g r = let h = f tt in record { net = n; at = p - first_pin s n; under = omega arith; within = omega arith; place = omega arith }
      go false f g r = let q = r (g tt) in record { net = q.net; at = q.at; under = omega (arith, q.under); within = q.within; place = q.place }

  -- ---- the nets

  pub nets-length : length (nets_of s) ≡ nets s
  nets-length = length_listed (net_of s) (nets s)

  pub net-at : (e : ℕ) → e < nets s → net_at (nets_of s) e ≡ net_of s e
  net-at e l = get_or_listed (net_of s) (nets s) e no_net l

  pub pins-length : (e : ℕ) → length (pins_of s e) ≡ pin_count s e
  pins-length e = length_listed (pin_of s e) (pin_count s e)

  pub pins_at : (e j : ℕ) → j < pin_count s e → get_or (pins_of s e) j 0 ≡ pin_of s e j
  pins_at e j l = get_or_listed (pin_of s e) (pin_count s e) j 0 l

  under : (e : ℕ) → e < nets s → e < length (nets_of s)
  under e l = omega (arith, nets-length)

  long : (e : ℕ) → e < nets s → length (net_at (nets_of s) e).pins ≡ pin_count s e
  long e l = ap (λ (n : Net). length n.pins) (net-at e l) ∙ pins-length e

  -- ---- all pins

  pub start_is : (e : ℕ) → e ≤ nets s → start (nets_of s) e ≡ first_pin s e
  unfolding start first_pin
  start_is zero l = refl
  start_is (suc e) l = omega (arith, start-suc (nets_of s) e (under e l), start_is e (omega arith), long e l)

  pub all-length : length (all_pins (nets_of s)) ≡ first_pin s (nets s)
  all-length = sym (start_all (nets_of s)) ∙ ap (start (nets_of s)) nets-length ∙ start_is (nets s) (le_refl _)

  pub pin_all : (p : ℕ) → p < first_pin s (nets s) → get_or (all_pins (nets_of s)) p 0 ≡ pin s p
  pin_all p l =
      let q = net-of (nets s) p l in
      let e = q.net in
      let j = q.at in
      let k : j < length (net_at (nets_of s) e).pins = omega (arith, long e q.under, q.within) in
      let h : start (nets_of s) e + j ≡ p = omega (arith, start_is e (omega (arith, q.under)), q.place) in
      ap (λ (i : ℕ). get_or (all_pins (nets_of s)) i 0) (sym h) ∙ pin_at (nets_of s) e (under e q.under) j k
      ∙ ap (λ (n : Net). get_or n.pins j 0) (net-at e q.under) ∙ pins_at e j q.within ∙ ap (pin s) (sym q.place)

  -- the pin body is the card's pins, net after net
  pub all-pins : all_pins (nets_of s) ≡ listed (pin s) (first_pin s (nets s))
  all-pins =
      ext_get_or 0 (all_pins (nets_of s)) (listed (pin s) (first_pin s (nets s))) (all-length ∙ sym (length_listed (pin s) (first_pin s (nets s))))
      (λ p l. let h : p < first_pin s (nets s) = omega (arith, all-length) in pin_all p h ∙ sym (get_or_listed (pin s) (first_pin s (nets s)) p 0 h))

  -- net e's own numbers of a flow
  pub numbers_are : (xs : List ℤ) (e : ℕ) → e < nets s → numbers (nets_of s) xs e ≡ take (pin_count s e) (drop (first_pin s e) xs)
  numbers_are xs e l = rw (long e l, start_is e (omega arith))

  -- ---- as a loop goes: over the nets, and over the pins of a net

  pub price_start : (x : Side) → price (take 0 (nets_of s)) x ≡ 0
  unfolding price
  price_start x = refl

  pub price_next : (x : Side) (e : ℕ) → e < nets s → price (take (e + 1) (nets_of s)) x ≡ price (take e (nets_of s)) x + cost x (net_of s e)
  price_next x e l = rw add-one (price-suc (nets_of s) x e (under e l) ∙ ap (λ (n : Net). price (take e (nets_of s)) x + cost x n) (net-at e l))

  pub price_all : (x : Side) → price (take (nets s) (nets_of s)) x ≡ price (nets_of s) x
  price_all x = ap (λ (ns : List Net). price ns x) (take_all (nets s) (nets_of s) (omega (arith, nets-length)))

  pub touches_start : (x : Side) (e : ℕ) → touches x (take 0 (pins_of s e)) ≡ false
  unfolding touches
  touches_start x e = refl

  pub touches_next : (x : Side) (e j : ℕ) → j < pin_count s e → touches x (take (j + 1) (pins_of s e)) ≡ (touches x (take j (pins_of s e)) || x (pin_of s e j))
  touches_next x e j l =
      rw add-one
      (touches-suc x (pins_of s e) j (omega (arith, pins-length e)) ∙ ap (λ (m : ℕ). touches x (take j (pins_of s e)) || x m) (pins_at e j l))

  pub touches_all : (x : Side) (e : ℕ) → touches x (take (pin_count s e) (pins_of s e)) ≡ touches x (pins_of s e)
  touches_all x e = ap (touches x) (take_all (pin_count s e) (pins_of s e) (omega (arith, pins-length e)))

-- a sound book has a valid card
module _ (s : List ℕ) (h : Sound s) where
  pub pin_under : (p : ℕ) → p < pins s → pin s p < modules s
  pin_under p l =
      let e : p < first_pin s (nets s) = omega (arith, h.pins_all) in
      let q = net-of s (nets s) p e in
      rw q.place (h.pin_module q.net q.at q.under q.within)

  pub card_valid : Valid (card_of s)
  card_valid = record {
    pins = λ m i. let r = mem_listed (pin s) (first_pin s (nets s)) m (rw (all-pins s) at i) in rw r.2 (pin_under r.0 (omega (arith, r.1, h.pins_all)));
    marks = h.mark_low;
  }

  -- one number of a flow for each pin of the book
  pub flow_length : length (all_pins (nets_of s)) ≡ pins s
  flow_length = all-length s ∙ h.pins_all
