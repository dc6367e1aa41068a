-- There is one walk: two walks of one card from one set of marks under one gate have the same rows and come to the same (`walks_one`), and so have one answer (`answer_one`).
-- Assumes nothing.
use Rattle.std.specs.Prelude.{◌≡◌, ℕ, List, [], ◌∷◌}
use mathlib.Core.Path.{refl, ap}
use native.Mathlib.Omega.{arith}
use Rattle.line.specs.Card.{Card, Alike}
use Rattle.line.proofs.Price.{price_same}
use Rattle.line.proofs.Duality.{Valid}
use Rattle.gate.specs.declared.Verdict.{Verdict}
use Rattle.walk.specs.Walk.{Stops, Takes, Ends, Row, Outcome, found, none_left, after, Walks, stop, go, end, answer}
use Rattle.walk.proofs.Rounds.{meet, turn_same, row_same, after_same}

abbrev pub SameOutcome : ℕ → Outcome → Outcome → Type 0
SameOutcome n (found x) (found y) = Alike n x y
SameOutcome n (found x) none_left = ⊥
SameOutcome n none_left (found y) = ⊥
SameOutcome n none_left none_left = Unit {0}

module _ (c : Card) (valid : Valid c) (area : ℕ → ℕ) (v : ℕ → Verdict) where
  walks_alike : (j k : ℕ → ℕ) (rs ss : List Row) (o p : Outcome) → Alike c.modules j k → Walks c area v j rs o → Walks c area v k ss p →
      (rs ≡ ss) × SameOutcome c.modules o p
  walks_alike j k _ _ _ _ e (stop x p f) (stop y q g) =
      let h = meet c valid area j k e x y p q in
      (ap (λ r. r ∷ []) (row_same c area j k x y h Stops), h.side)
  walks_alike j k _ _ _ _ e (stop x p f) (go y w m q g r) =
      let h = turn_same c area j k x y (meet c valid area j k e x y p q) v in
      let z : ◌≡◌ {A = ℕ} 0 1 = cc in absurd (omega arith)
  walks_alike j k _ _ _ _ e (stop x p f) (end y q g) =
      let h = turn_same c area j k x y (meet c valid area j k e x y p q) v in
      let z : ◌≡◌ {A = ℕ} 0 1 = cc in absurd (omega arith)
  walks_alike j k _ _ _ _ e (end x p f) (stop y q g) =
      let h = turn_same c area j k x y (meet c valid area j k e x y p q) v in
      let z : ◌≡◌ {A = ℕ} 0 1 = cc in absurd (omega arith)
  walks_alike j k _ _ _ _ e (end x p f) (go y w m q g r) =
      let h = turn_same c area j k x y (meet c valid area j k e x y p q) v in
      let z : ◌≡◌ {A = ℕ} 0 1 = cc in absurd (omega arith)
  walks_alike j k _ _ _ _ e (end x p f) (end y q g) =
      let h = meet c valid area j k e x y p q in
      (ap (λ r. r ∷ []) (row_same c area j k x y h Ends), tt)
  walks_alike j k _ _ _ _ e (go x w m p f a) (stop y q g) =
      let h = turn_same c area j k x y (meet c valid area j k e x y p q) v in
      let z : ◌≡◌ {A = ℕ} 0 1 = cc in absurd (omega arith)
  walks_alike j k _ _ _ _ e (go x w m p f a) (end y q g) =
      let h = turn_same c area j k x y (meet c valid area j k e x y p q) v in
      let z : ◌≡◌ {A = ℕ} 0 1 = cc in absurd (omega arith)
  walks_alike j k _ _ o o' e (go {rows = rs} x w m p f a) (go {rows = ss} y w' m' q g b) =
      let h = meet c valid area j k e x y p q in
      let t = turn_same c area j k x y h v in
      let u : w' ≡ w = cc in
      let n : m' ≡ m = cc in
      let b' : Walks c area v (after w m y k) ss o' = rw (u, n) at b in
      let r = walks_alike (after w m x j) (after w m y k) rs ss o o' (after_same w m c.modules x y j k h.side e) a b' in
      (rw (u, n, row_same c area j k x y h (Takes w m), r.0), r.1)

  -- two walks of one card from one set of marks under one gate have the same rows and come to the same
  pub walks_one : {k : ℕ → ℕ} {rs ss : List Row} {o p : Outcome} → Walks c area v k rs o → Walks c area v k ss p → (rs ≡ ss) × SameOutcome c.modules o p
  walks_one {k} {rs} {ss} {o} {p} a b = walks_alike k k rs ss o p (λ m l. refl) a b

pub answer_one : (c : Card) → Valid c → (area : ℕ → ℕ) (v : ℕ → Verdict) {k : ℕ → ℕ} {rs ss : List Row} {o p : Outcome} →
    Walks c area v k rs o → Walks c area v k ss p → answer c rs o ≡ answer c ss p
answer_one c valid area v {k} {rs} {ss} {o} {p} a b = same o p (walks_one c valid area v a b)
  where
    same : (o p : Outcome) → (rs ≡ ss) × SameOutcome c.modules o p → answer c rs o ≡ answer c ss p
    same (found x) (found y) h = rw (h.0, price_same c.nets x y (λ m i. h.1 m (valid.pins m i)))
    same (found x) none_left h = absurd h.1
    same none_left (found y) h = absurd h.1
    same none_left none_left h = rw h.0
