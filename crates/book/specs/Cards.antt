-- The card of a book: its modules with their marks, and its nets in file order, each with its weight and its pins. Definitions only.
use Rattle.std.specs.Prelude.{ℕ, ◌+◌, List}
use Rattle.line.specs.Card.{Net, Card, Side, area_to}
use Rattle.book.specs.Listed.{listed}
use Rattle.book.specs.Format.{modules, nets, area, mark, weight, pin_count, pin, first_pin}

-- the module of pin j of net n
abbrev pub pin_of : List ℕ → ℕ → ℕ → ℕ
pin_of s n j = pin s (first_pin s n + j)

abbrev pub pins_of : List ℕ → ℕ → List ℕ
pins_of s n = listed (pin_of s n) (pin_count s n)

abbrev pub net_of : List ℕ → ℕ → Net
net_of s n = record { weight = weight s n; pins = pins_of s n }

abbrev pub nets_of : List ℕ → List Net
nets_of s = listed (net_of s) (nets s)

abbrev pub card_of : List ℕ → Card
card_of s = record { modules = modules s; mark = mark s; nets = nets_of s }

-- the area of a side of the book's card
abbrev pub area_of : List ℕ → Side → ℕ
area_of s x = area_to (area s) x (modules s)
