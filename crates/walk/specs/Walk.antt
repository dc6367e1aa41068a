-- The balancing walk, in the words of document 01. This page holds definitions only.
use Rattle.std.specs.Prelude.{◌≡◌, ℕ, Bool, false, ◌&&◌, ◌||◌, List, [], ◌∷◌, length, ◌==◌, Option, Some, None}
use Rattle.line.specs.Card.{Net, Card, Side, outside, either, touches, crosses, price, Near, Alike, area_to, count_to, remark, pin}
use Rattle.line.specs.Flow.{only}
use Rattle.book.specs.First.{or_else, lowest}
use Rattle.book.specs.Answer.{number_of, place_of}
use Rattle.book.specs.declared.Refusal.TheVariants.{Stuck}
use Rattle.gate.specs.declared.Verdict.{Verdict}
pub use Rattle.walk.specs.declared.Way.{Way}
pub use Rattle.walk.specs.declared.Way.TheVariants.{Meter, Maker}
pub use Rattle.walk.specs.declared.Turn.{Turn}
pub use Rattle.walk.specs.declared.Turn.TheVariants.{Stops, Takes, Ends}
pub use Rattle.walk.specs.declared.Row.{Row}
use Rattle.gate.specs.declared.Verdict.TheVariants.{Below, Within, Above}

-- A round pins to the meter, or to the maker (`Way`). It stops; it takes a module and pins; or it ends with 14 (`Turn`). Both are the enums of the code.

-- ---- One round. X, here x, is the near side for the modules now pinned, which the marks k say.

-- Module m has a pin on a net that X cuts.
unfoldable pub on_cut : List Net → Side → ℕ → Bool
on_cut [] x m = false
on_cut (n ∷ ns) x m = (crosses x n && touches (only m) n.pins) || on_cut ns x m

-- Free means not yet pinned before this round.
abbrev pub free : (ℕ → ℕ) → Side
free k m = k m == 0

-- A free module on that side, here y: outside X, or inside it.
abbrev pub free_in : (ℕ → ℕ) → Side → Side
free_in k y m = y m && free k m

-- The module taken is the lowest-numbered free one on that side with a pin on a net that X cuts; if none has, the lowest-numbered free one on that side.
unfoldable pub choice : Card → (ℕ → ℕ) → Side → Side → Option ℕ
choice c k x y = or_else (lowest (λ m. free_in k y m && on_cut c.nets x m) c.modules) (lowest (free_in k y) c.modules)

-- If none at all, end with 14.
abbrev pub taking : Way → Option ℕ → Turn
taking w None = Ends
taking w (Some m) = Takes w m

-- Area of X within the gate: stop. Below low: to the meter, and one free module outside X. Above high: to the maker, and one free module inside X.
abbrev pub decide : Verdict → Option ℕ → Option ℕ → Turn
decide Below out inn = taking Meter out
decide Within out inn = Stops
decide Above out inn = taking Maker inn

-- What a round comes to, where v is what the gate says of an area.
unfoldable pub turn : Card → (ℕ → ℕ) → (ℕ → Verdict) → (ℕ → ℕ) → Side → Turn
turn c area v k x = decide (v (area_to area x c.modules)) (choice c k x (outside x)) (choice c k x x)

-- The marks after a round: all of X and the module taken to the meter, or all outside X and the module taken to the maker.
abbrev pub after : Way → ℕ → Side → (ℕ → ℕ) → ℕ → ℕ
after Meter m x k = pin 1 (either x (only m)) k
after Maker m x k = pin 2 (either (outside x) (only m)) k

-- The marks to go on with, whatever the round came to.
abbrev pub after_turn : Turn → Side → (ℕ → ℕ) → ℕ → ℕ
after_turn Stops x k = k
after_turn (Takes w m) x k = after w m x k
after_turn Ends x k = k

-- ---- Each round writes a row, which is the struct of the code: price, area of X, and in two numbers, module taken and way, what it came to.

-- Module taken: 65535 if none.
abbrev pub taken_of : Turn → ℕ
taken_of Stops = 65535
taken_of (Takes w m) = m
taken_of Ends = 65535

-- Way: 1 to meter, 2 to maker.
abbrev pub number : Way → ℕ
number Meter = 1
number Maker = 2

-- 0 stopped, 3 ended with 14.
abbrev pub way_of : Turn → ℕ
way_of Stops = 0
way_of (Takes w m) = number w
way_of Ends = 3

abbrev pub row : Card → (ℕ → ℕ) → Side → Turn → Row
row c area x t = record { price = price c.nets x; area = area_to area x c.modules; turn = t }

-- One round takes the walk as it stands and gives the next: from the marks k, by the near side x and with the row r, to the marks l.
pub record Round (c : Card) (area : ℕ → ℕ) (v : ℕ → Verdict) (k : ℕ → ℕ) (x : Side) (r : Row) (l : ℕ → ℕ) : Type 0 where
  pub near : Near (remark c k) x
  pub written : r ≡ row c area x (turn c area v k x)
  pub marks : Alike c.modules (after_turn (turn c area v k x) x k) l

-- ---- The walk comes to a side, or ends with 14.
pub data Outcome : Type 0 where
  found : Side → Outcome
  none_left : Outcome

-- From the marks k the walk has these rows and comes to this: a round that stops it, one that goes on, or one that ends it.
pub data Walks (c : Card) (area : ℕ → ℕ) (v : ℕ → Verdict) : (ℕ → ℕ) → List Row → Outcome → Type 0 where
  stop : {k : ℕ → ℕ} (x : Side) → Near (remark c k) x → turn c area v k x ≡ Stops → Walks c area v k (row c area x Stops ∷ []) (found x)
  go : {k : ℕ → ℕ} {rows : List Row} {o : Outcome} (x : Side) (w : Way) (m : ℕ) → Near (remark c k) x → turn c area v k x ≡ Takes w m →
      Walks c area v (after w m x k) rows o → Walks c area v k (row c area x (Takes w m) ∷ rows) o
  end : {k : ℕ → ℕ} (x : Side) → Near (remark c k) x → turn c area v k x ≡ Ends → Walks c area v k (row c area x Ends ∷ []) none_left

-- The free modules among the first n; with f in the book there are at most f + 1 rounds.
abbrev pub free_to : (ℕ → ℕ) → ℕ → ℕ
free_to k n = count_to (free k) n

-- ---- The numbers of the answer.
pub record Answer : Type 0 where
  pub number : ℕ
  pub place : ℕ
  pub price : ℕ
  pub rounds : ℕ

-- It answers the last price and the count of rounds; with 14, the count of rounds is the one other number.
abbrev pub answer : Card → List Row → Outcome → Answer
answer c rows (found x) = record { number = 0; place = 0; price = price c.nets x; rounds = length rows }
answer c rows none_left = record { number = number_of Stuck; place = place_of Stuck; price = 0; rounds = length rows }
