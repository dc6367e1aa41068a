-- The call that tells what a move changes: what it answers, whatever the bytes. Definitions only.
use Rattle.std.specs.Prelude.{ℕ, ◌<◌, ◌≡◌, Bool, true, false, not, cond, ◌&&◌, ◌||◌, List, eqb, ltb, ℤ, pos, ◌-ℤ◌, Result, Ok, Err, ⊤}
use Rattle.line.specs.Card.{Net, Side, outside, both, touches, price}
use Rattle.line.specs.Flow.{only}
use Rattle.book.specs.Format.{modules, mark}
use Rattle.book.specs.Cards.{nets_of}
use Rattle.book.specs.Answer.{number_of, place_of}
use Rattle.book.specs.declared.Refusal.{Refusal}
use Rattle.book.specs.declared.Refusal.TheVariants.{Move}
use Rattle.side.specs.declared.Apart.{Apart}
use Rattle.side.specs.Sides.{side_of}
use Rattle.side.specs.Given as page

-- the side with module m on the other side
abbrev pub flipped : Side → ℕ → Side
flipped x m k = cond (only m k) (not (x k)) (x k)

-- m is a free module, and the test of it
abbrev pub Free : List ℕ → ℕ → Type 0
Free s m = (m < modules s) × (mark s m ≡ 0)

unfoldable pub is_free : List ℕ → ℕ → Bool
is_free s m = ltb m (modules s) && eqb (mark s m) 0

-- when checks 1 to 6 and 8 to 10 refuse, and with what
pub data RefusesMove (s l : List ℕ) (m : ℕ) : Refusal → Type 0 where
  side : {why : Refusal} → page.Refuses s l why → RefusesMove s l m why
  fixed : page.Reads s → page.Fits s l → (Free s m → ⊥) → RefusesMove s l m Move

-- the price after the move, less the price before
abbrev pub change_of : List ℕ → Side → ℕ → ℤ
change_of s x m = pos (price (nets_of s) (flipped x m)) -ℤ pos (price (nets_of s) x)

-- check 10 on a side that has passed the others
abbrev pub change_if : Bool → ℤ → Result ℤ Refusal
change_if true z = Ok z
change_if false z = Err Move

unfoldable pub changed_good : List ℕ → List ℕ → ℕ → Result ℤ Refusal
changed_good s l m = change_if (is_free s m) (change_of s (side_of l) m)

-- the refusal of the checks before, or the rest
abbrev pub change_after : Result ⊤ Refusal → Result ℤ Refusal → Result ℤ Refusal
change_after (Ok tt) rest = rest
change_after (Err why) rest = Err why

-- the answer, whatever the bytes
unfoldable pub changed : List ℕ → List ℕ → ℕ → Result ℤ Refusal
changed s l m = change_after (page.given s l) (changed_good s l m)

-- a net apart from module m: whether m has a pin on it, and whether a pin of another module is on the side, and off it
abbrev pub apart_of : Side → ℕ → Net → Apart
apart_of x m n = record {
  has = touches (only m) n.pins;
  on = touches (both x (outside (only m))) n.pins;
  off = touches (both (outside x) (outside (only m))) n.pins;
}

-- such a net crosses with m on the side, or with m off it
abbrev pub crosses_with : Apart → Bool → Bool
crosses_with a b = (a.on || (a.has && b)) && (a.off || (a.has && not b))

-- document 01's numbers of an answer: 0 is done, and with a refusal every other number is 0
pub record Numbers : Type 0 where
  pub number : ℕ
  pub place : ℕ
  pub change : ℤ

abbrev pub numbers_of : Result ℤ Refusal → Numbers
numbers_of (Ok z) = record { number = 0; place = 0; change = z }
numbers_of (Err why) = record { number = number_of why; place = place_of why; change = pos 0 }
