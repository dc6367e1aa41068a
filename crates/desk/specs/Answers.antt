-- An answer as the C interface gives it: eight numbers, which are those of document 01 for the call's own answer. Definitions only.
use Rattle.book.specs.declared.Refusal.{Refusal}
use Rattle.std.specs.Prelude.{ℕ, zero, suc, ◌≡◌, cond, List, [], ◌∷◌, eqb, Float, ℤ, pos, Result}
use Rattle.book.specs.Checks.{read_of}
use Rattle.book.specs.Answer as book
use Rattle.side.specs.Prices.{priced}
use Rattle.side.specs.Prices as prices
use Rattle.side.specs.Moves.{changed}
use Rattle.side.specs.Moves as moves
use Rattle.audit.specs.Checker.{checked_of}
use Rattle.audit.specs.Checker as checker
use Rattle.split.specs.Splits.{Buffers, Split}
use Rattle.split.specs.Splits as splits
use Rattle.gate.specs.Gates.{zero_f, top_f}
use Rattle.gate.specs.declared.Gate.{Gate}
use Rattle.gate.specs.declared.Gate.TheVariants.{Open, Share, Bounds}
use Rattle.walk.specs.Walk.{Answer}
use Rattle.walk.specs.Call.{Walked}

-- n numbers: those of the list, and 0 in every place that is left
abbrev pub padded : ℕ → List ℤ → List ℤ
padded zero zs = []
padded (suc n) [] = pos 0 ∷ padded n []
padded (suc n) (z ∷ zs) = z ∷ padded n zs

-- number, place, second place, then the values
abbrev pub places : ℕ → ℕ → List ℤ → List ℤ
places number place values = padded 8 (pos number ∷ pos place ∷ pos 0 ∷ values)

-- ---- what each call that only reads tells, whatever came in

abbrev pub read_places : book.Numbers → List ℤ
read_places n = places n.number n.place (pos n.modules ∷ pos n.nets ∷ pos n.pins ∷ [])

abbrev pub read_told : List ℕ → List ℤ
read_told s = read_places (book.numbers_of (read_of s))

abbrev pub price_places : prices.Numbers → List ℤ
price_places n = places n.number n.place (pos n.price ∷ [])

abbrev pub price_told : List ℕ → List ℕ → List ℤ
price_told s l = price_places (prices.numbers_of (priced s l))

abbrev pub move_places : moves.Numbers → List ℤ
move_places n = places n.number n.place (n.change ∷ [])

abbrev pub move_told : List ℕ → List ℕ → ℕ → List ℤ
move_told s l m = move_places (moves.numbers_of (changed s l m))

abbrev pub check_places : checker.Numbers → List ℤ
check_places n = places n.number n.place []

abbrev pub check_told : List ℕ → List ℕ → List ℤ → ℕ → List ℤ
check_told s l xs claim = check_places (checker.numbers_of (checked_of s l xs claim))

-- ---- the calls that write

abbrev pub split_places : splits.Numbers → List ℤ
split_places n = places n.number n.place (pos n.price ∷ [])

-- The eight numbers are those of an answer that the split's own statement allows, with the buffers as they are left.
pub record SplitTold (s : List ℕ) (old new : Buffers) (eight : List ℤ) : Type 0 where
  pub answer : Result ℕ Refusal
  pub split : Split s old answer new
  pub numbers : eight ≡ split_places (splits.numbers_of answer)

-- bounds with low above high
abbrev pub bad_gate : Gate
bad_gate = Bounds top_f zero_f

-- A gate by its number: 0 open, 1 share, 2 bounds; any other number is a bad gate, whatever a and b are.
abbrev pub gate_of : ℕ → Float → Float → Gate
gate_of n a b = cond (eqb n 0) Open (cond (eqb n 1) (Share a b) (cond (eqb n 2) (Bounds a b) bad_gate))

abbrev pub walk_places : Answer → List ℤ
walk_places n = places n.number n.place (pos n.price ∷ pos n.rounds ∷ [])

-- The same of the walk, with the side and the rows as they are left.
pub record WalkTold (s : List ℕ) (g : Gate) (side₀ rows₀ side rows : List ℕ) (eight : List ℤ) : Type 0 where
  pub answer : Answer
  pub walked : Walked s g side₀ rows₀ (record { answer = answer; side = side; rows = rows })
  pub numbers : eight ≡ walk_places answer
