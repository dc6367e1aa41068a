-- The call that prices a side: what it answers, whatever the bytes, and the largest sums of a book. Definitions only.
use Rattle.book.specs.declared.Refusal.{Refusal}
use Rattle.std.specs.Prelude.{ℕ, ◌*◌, List, Result, Ok, Err, ⊤}
use Rattle.line.specs.Card.{price}
use Rattle.book.specs.Checks.{most_modules, most_nets}
use Rattle.book.specs.Cards.{nets_of}
use Rattle.book.specs.Answer.{number_of, place_of}
use Rattle.side.specs.Sides.{side_of}
use Rattle.side.specs.Given as page

-- the largest area of a module and weight of a net, and with them the largest area and price of a side
abbrev pub most_number : ℕ
most_number = 65535

abbrev pub most_area : ℕ
most_area = most_number * most_modules

abbrev pub most_price : ℕ
most_price = most_number * most_nets

-- the price, where no check refuses
abbrev pub price_after : Result ⊤ Refusal → ℕ → Result ℕ Refusal
price_after (Ok tt) p = Ok p
price_after (Err why) p = Err why

-- the answer, whatever the bytes
unfoldable pub priced : List ℕ → List ℕ → Result ℕ Refusal
priced s l = price_after (page.given s l) (price (nets_of s) (side_of l))

-- document 01's numbers of an answer: 0 is done, and with a refusal every other number is 0
pub record Numbers : Type 0 where
  pub number : ℕ
  pub place : ℕ
  pub price : ℕ

abbrev pub numbers_of : Result ℕ Refusal → Numbers
numbers_of (Ok p) = record { number = 0; place = 0; price = p }
numbers_of (Err why) = record { number = number_of why; place = place_of why; price = 0 }
