-- What the buffers hold after a split, the price as the value of its flow, and what a split needs of them. Assumes nothing.
use Rattle.std.specs.Prelude.{◌≡◌, ℕ, ◌+◌, ◌≤◌, false, ltb, List, ◌++◌, length, take, drop, ℤ}
use mathlib.Core.Path.{sym, ap, ◌∙◌}
use native.Mathlib.Omega.{arith}
use lib.Seq.{length-take-le, length_front, take_at, drop_at}
use borrow.Author.Tests.{ltb-false}
use Rattle.line.specs.Card.{price}
use Rattle.line.proofs.Bools.{or_none}
use Rattle.book.specs.Format.{modules, pins}
use Rattle.book.specs.Sound.{Sound}
use Rattle.book.specs.Cards.{card_of, nets_of}
use Rattle.side.specs.Sides.{side_of, bytes_for}
use Rattle.side.specs.Given.{is_short}
use Rattle.audit.specs.Rules.{value_sent, value_taken}
use Rattle.audit.proofs.Fairness.{value_to}
use Rattle.split.specs.Solved.{Solved}
use Rattle.split.specs.Splits.{Buffers, buffers, too_short, Holds, Room}

pub holds_of : (s near₀ far₀ near far : List ℕ) (fl₀ xs : List ℤ) (p k : ℕ) → k ≡ pins s → pins s ≤ length fl₀ → length xs ≡ length (take k fl₀) →
    Solved (card_of s) near₀ far₀ near far xs → p ≡ price (nets_of s) (side_of near) → Holds s p (buffers near₀ far₀ fl₀) (buffers near far (xs ++ drop k fl₀))
holds_of s near₀ far₀ near far fl₀ xs p k e l f q g =
    let n : length xs ≡ pins s = f ∙ length-take-le k fl₀ (omega (arith, e, l)) ∙ e in
    let t : xs ≡ take (pins s) (xs ++ drop k fl₀) = sym (take_at xs (drop k fl₀) (pins s) n) in
    record {
      solved = rw t at q;
      long = length_front fl₀ xs k f;
      tail = drop_at xs (drop k fl₀) (pins s) n ∙ ap (λ (i : ℕ). drop i fl₀) e;
      price_is = g;
    }

-- what the flow of a split sends less what it takes, at meter modules, is the price of its near side
module _ (s : List ℕ) (h : Sound s) (near₀ far₀ near far : List ℕ) (xs : List ℤ) (q : Solved (card_of s) near₀ far₀ near far xs) where
  value_is : value_sent s xs ≡ value_taken s xs + price (nets_of s) (side_of near)
  value_is = value_to s h xs (price (nets_of s) (side_of near)) q.value

  pub solved_under : value_taken s xs ≤ value_sent s xs
  solved_under = omega (arith, value_is)

  pub solved_price : (r : ℕ) → value_taken s xs + r ≡ value_sent s xs → r ≡ price (nets_of s) (side_of near)
  solved_price r e = omega (arith, value_is)

pub room_of : (s : List ℕ) (b : Buffers) → Sound s → too_short s b ≡ false → Room s b.near b.far b.flow
unfolding too_short is_short
room_of s b h e =
    let a = or_none _ (ltb (length b.flow) (pins s)) e in
    let d = or_none (ltb (length b.near) (bytes_for (modules s))) (ltb (length b.far) (bytes_for (modules s))) a.0 in
    record { sound = h; for_near = ltb-false _ _ d.0; for_far = ltb-false _ _ d.1; for_flow = ltb-false _ _ a.1 }
