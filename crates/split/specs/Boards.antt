-- Arrays that begin with a book's numbers and the tables of its pins, and a board that lends them. Definitions only.
use Rattle.std.specs.Prelude.{◌≡◌, ℕ, ◌+◌, ◌<◌, List, take, get_or}
use Rattle.book.specs.Format.{modules, nets, pins, mark, weight, pin, first_pin}
use Rattle.book.specs.Listed.{listed}
use Rattle.flow.specs.Search.{Tables}
use Rattle.flow.specs.declared.board.Board.{Board}

-- where the pins of each net begin, and where those of the last end
abbrev pub Firsts : List ℕ → List ℕ → Type 0
Firsts s fs = take (nets s + 1) fs ≡ listed (first_pin s) (nets s + 1)

-- the module of each pin
abbrev pub Mods : List ℕ → List ℕ → Type 0
Mods s ms = take (pins s) ms ≡ listed (pin s) (pins s)

abbrev pub Weights : List ℕ → List ℕ → Type 0
Weights s ws = take (nets s) ws ≡ listed (weight s) (nets s)

abbrev pub Marks : List ℕ → List ℕ → Type 0
Marks s mk = take (modules s) mk ≡ listed (mark s) (modules s)

-- each weight is a number of 16 bits
abbrev pub Light : List ℕ → List ℕ → Type 0
Light s ws = (n : ℕ) → get_or (take (nets s) ws) n 0 < 65536

abbrev pub Tabled : List ℕ → List ℕ → List ℕ → List ℕ → List ℕ → List ℕ → List ℕ → Type 0
Tabled s fs ms ws nt at pl =
    Tables (take (nets s + 1) fs) (take (pins s) ms) (take (nets s) ws) (take (pins s) nt) (take (modules s + 1) at) (take (pins s) pl) (modules s)

-- the board's numbers are the book's, whatever its marks
pub record Lends (s : List ℕ) (b : Board) : Type 0 where
  pub firsts : b.first.now ≡ listed (first_pin s) (nets s + 1)
  pub mods : b.mods.now ≡ listed (pin s) (pins s)
  pub weights : b.weight.now ≡ listed (weight s) (nets s)
