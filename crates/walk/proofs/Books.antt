-- The walk over books: prices never fall from row to row, there are at most f + 1 rounds, and each row is that of a near side for the modules then pinned, which
-- is cheapest among all that separate them and lies inside every cheapest one. Assumes nothing.
use Rattle.std.specs.Prelude.{◌≡◌, ℕ, zero, suc, ◌+◌, ◌<◌, ◌≤◌, List, length, get_or}
use mathlib.Core.Path.{refl}
use native.Mathlib.Omega.{arith}
use native.Mathlib.Nat.{not-suc-le-zero, le_of_suc-le-suc}
use Rattle.line.specs.Card.{Card, Side, price, area_to, Near, remark}
use Rattle.book.specs.Format.{modules, mark, area}
use Rattle.book.specs.Cards.{card_of}
use Rattle.gate.specs.declared.Verdict.{Verdict}
use Rattle.gate.specs.declared.Gate.{Gate}
use Rattle.walk.specs.Walk.{Row, Outcome, found, none_left, free_to, Walks, stop, go, end, answer}
use Rattle.walk.specs.Call.{Left, Written}
use Rattle.walk.proofs.Prices.{no_row, prices_rise}
use Rattle.walk.proofs.Rounds.{walks_rounds}

-- a row is the price and the area of the near side for some marks
pub record NearFor (c : Card) (area : ℕ → ℕ) (r : Row) : Type 0 where
  pub marks : ℕ → ℕ
  pub side : Side
  pub near : Near (remark c marks) side
  pub price_is : r.price ≡ price c.nets side
  pub area_is : r.area ≡ area_to area side c.modules

walks_near : (c : Card) (area : ℕ → ℕ) (v : ℕ → Verdict) {k : ℕ → ℕ} {rs : List Row} {o : Outcome} → Walks c area v k rs o → (i : ℕ) → i < length rs → NearFor c area (get_or rs i no_row)
walks_near c area v {k} (stop x p e) zero l = record { marks = k; side = x; near = p; price_is = refl; area_is = refl }
walks_near c area v {k} (stop x p e) (suc i) l = absurd (not-suc-le-zero (le_of_suc-le-suc l))
walks_near c area v {k} (go x w m p e a) zero l = record { marks = k; side = x; near = p; price_is = refl; area_is = refl }
walks_near c area v {k} (go x w m p e a) (suc i) l = walks_near c area v a i (le_of_suc-le-suc l)
walks_near c area v {k} (end x p e) zero l = record { marks = k; side = x; near = p; price_is = refl; area_is = refl }
walks_near c area v {k} (end x p e) (suc i) l = absurd (not-suc-le-zero (le_of_suc-le-suc l))

counted : (c : Card) (rs : List Row) (o : Outcome) → (answer c rs o).rounds ≡ length rs
counted c rs (found x) = refl
counted c rs none_left = refl

module _ (s : List ℕ) (g : Gate) (side rows : List ℕ) (a : Left) (w : Written s g side rows a) where
  -- prices never fall from row to row
  pub book_prices : (i j : ℕ) → i ≤ j → j < length w.rounds → (get_or w.rounds i no_row).price ≤ (get_or w.rounds j no_row).price
  book_prices = prices_rise _ _ _ w.walks

  -- with f free modules there are at most f + 1 rounds, and the count in the answer is the count of rows
  pub book_count : a.answer.rounds ≡ length w.rounds
  book_count = rw w.left (counted (card_of s) w.rounds w.outcome)

  pub book_rounds : a.answer.rounds ≤ free_to (mark s) (modules s) + 1
  book_rounds = omega (arith, book_count, walks_rounds _ _ _ w.walks)

  -- each row is that of a near side for the modules then pinned
  pub book_near : (i : ℕ) → i < length w.rounds → NearFor (card_of s) (area s) (get_or w.rounds i no_row)
  book_near = walks_near (card_of s) (area s) _ w.walks
