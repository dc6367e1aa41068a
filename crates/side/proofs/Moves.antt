-- A move: what a net apart from one module tells of it before and after that module is moved, and what the price gains and loses by it. Assumes nothing.
use Prim.Native.Nat.{ℕ, zero, suc, ◌+◌, ◌-◌, ◌≤◌}
use mathlib.Core.Path.{◌≡◌, refl, sym, ap, ap₂, ◌∙◌}
use mathlib.Core.Bool.{Bool, true, false, not, cond, ◌&&◌, ◌||◌}
use mathlib.Core.List.{List, [], ◌∷◌}
use native.Mathlib.Omega.{arith}
use lib.Dec.{T, eqb, ltb, eqb→eq}
use lib.IntN.{pos, negsuc, neg_ℤ, ◌-ℤ◌}
use lib.Signed.{mag}
use borrow.Author.Tests.{eq-eqb}
use Rattle.line.specs.Card.{Net, Side, outside, both, touches, crosses, cost}
use Rattle.line.specs.Flow.{only, sent, taken}
use Rattle.line.proofs.Price.{touches_same}
use Rattle.line.proofs.Sums.{add_diff, diff_same}
use Rattle.side.specs.Moves.{flipped, apart_of, crosses_with}

-- a pin inside is one of another module, or one of m, which is inside
touches_apart : (y : Side) (m : ℕ) (ps : List ℕ) → touches y ps ≡ (touches (both y (outside (only m))) ps || (touches (only m) ps && y m))
unfolding touches
touches_apart y m [] = refl
touches_apart y m (p ∷ ps) =
    ap (λ (t : Bool). y p || t) (touches_apart y m ps)
    ∙ go (eqb p m) (y p) (y m) (touches (both y (outside (only m))) ps) (touches (only m) ps) (λ t. ap y (eqb→eq p m t))
  where
    go : (e a b c d : Bool) → (T e → a ≡ b) → (a || (c || (d && b))) ≡ (((a && not e) || c) || ((e || d) && b))
    go true a true c d f = rw (f tt) (last c)
      where
        last : (c : Bool) → true ≡ (c || true)
        last true = refl
        last false = refl
    go true a false c d f = rw (f tt) (none c d)
      where
        none : (c d : Bool) → (c || (d && false)) ≡ (c || false)
        none true d = refl
        none false true = refl
        none false false = refl
    go false true b c d f = refl
    go false false b c d f = refl

module _ (x : Side) (m : ℕ) (n : Net) where
  -- with m where it is, the net crosses as it does
  pub stays : crosses_with (apart_of x m n) (x m) ≡ crosses x n
  unfolding crosses
  stays = ap₂ (λ (p q : Bool). p && q) (sym (touches_apart x m n.pins)) (sym (touches_apart (outside x) m n.pins))

-- the other modules stay
others : (x : Side) (m : ℕ) (n : Net) → apart_of x m n ≡ apart_of (flipped x m) m n
others x m n =
    let on = touches_same (both x (outside (only m))) (both (flipped x m) (outside (only m))) n.pins (λ k _. same_on (only m k) (x k)) in
    let off = touches_same (both (outside x) (outside (only m))) (both (outside (flipped x m)) (outside (only m))) n.pins (λ k _. same_off (only m k) (x k)) in
    λ i. record { has = touches (only m) n.pins; on = on i; off = off i }
  where
    same_on : (e a : Bool) → (a && not e) ≡ (cond e (not a) a && not e)
    same_on true true = refl
    same_on true false = refl
    same_on false a = refl

    same_off : (e a : Bool) → (not a && not e) ≡ (not (cond e (not a) a) && not e)
    same_off true true = refl
    same_off true false = refl
    same_off false a = refl

-- with m on the other side, it crosses as the side with m flipped does
pub moves : (x : Side) (m : ℕ) (n : Net) → crosses_with (apart_of x m n) (not (x m)) ≡ crosses (flipped x m) n
moves x m n =
    let here : flipped x m m ≡ not (x m) = rw (eq-eqb m m refl) in
    ap₂ crosses_with (others x m n) (sym here) ∙ stays (flipped x m) m n

-- what a net costs after and loses is what it costs before and gains
turns : (w : ℕ) (p q : Bool) → cond q w 0 + cond (p && not q) w 0 ≡ cond p w 0 + cond (q && not p) w 0
turns w true true = omega arith
turns w true false = omega arith
turns w false true = omega arith
turns w false false = omega arith

pub net_turns : (x y : Side) (n : Net) → cost y n + cond (crosses x n && not (crosses y n)) n.weight 0 ≡ cost x n + cond (crosses y n && not (crosses x n)) n.weight 0
unfolding cost
net_turns x y n = turns n.weight (crosses x n) (crosses y n)

-- two differences of numbers are one
as_sent : (b : ℕ) → (sent (neg_ℤ (pos b)) ≡ 0) × (taken (neg_ℤ (pos b)) ≡ b)
as_sent zero = (refl, refl)
as_sent (suc b) = (refl, refl)

pub differences : (a b c d : ℕ) → a + d ≡ c + b → pos a -ℤ pos b ≡ pos c -ℤ pos d
differences a b c d e =
    diff_same (pos a -ℤ pos b) (pos c -ℤ pos d)
    (omega (arith, add_diff (pos a) (neg_ℤ (pos b)), add_diff (pos c) (neg_ℤ (pos d)), (as_sent b).0, (as_sent b).1, (as_sent d).0, (as_sent d).1))

-- and no larger than both numbers
pub difference_small : (a b : ℕ) → mag (pos a -ℤ pos b) ≤ a + b
difference_small a zero = omega arith
difference_small a (suc b) = go (ltb a (suc b))
  where
    go : (t : Bool) → mag (cond t (negsuc (suc b - suc a)) (pos (a - suc b))) ≤ a + suc b
    go true = omega arith
    go false = omega arith
