-- What is told of a walk settles its rounds (`rounds_are`): the four numbers of a row are those of one row alone. Assumes nothing.
use mathlib.Core.Path.{◌≡◌, refl, sym, ap, ap₂, ◌∙◌}
use mathlib.Core.List.{List, [], ◌∷◌, map}
use Prim.Native.Nat.{ℕ, zero, suc}
use Rattle.gate.specs.declared.Gate.{Gate}
use Rattle.walk.specs.declared.Row.{Row}
use Rattle.walk.specs.declared.Turn.{Turn}
use Rattle.walk.specs.declared.Turn.TheVariants.{Stops, Takes, Ends}
use Rattle.walk.specs.declared.Way.TheVariants.{Meter, Maker}
use Rattle.walk.specs.Walk.{taken_of, way_of}
use Rattle.starred.specs.Cases.{RowNumbers, numbers_in, Rounds, WalkTells}

-- the turn with this module taken and this way, where a turn has them
abbrev turn_of : ℕ → ℕ → Turn
turn_of m zero = Stops
turn_of m (suc zero) = Takes Meter m
turn_of m (suc (suc zero)) = Takes Maker m
turn_of m (suc (suc (suc w))) = Ends

turn_whole : (t : Turn) → turn_of (taken_of t) (way_of t) ≡ t
turn_whole Stops = refl
turn_whole (Takes Meter m) = refl
turn_whole (Takes Maker m) = refl
turn_whole Ends = refl

-- the row with these numbers, where a row has them
abbrev pub row_with : RowNumbers → Row
row_with n = record { price = n.price; area = n.area; turn = turn_of n.taken n.way }

rows_whole : (rs : List Row) → map row_with (map numbers_in rs) ≡ rs
rows_whole [] = refl
rows_whole (r ∷ rs) = ap₂ (λ (q : Row) (qs : List Row). q ∷ qs) (ap (λ (t : Turn). record { price = r.price; area = r.area; turn = t }) (turn_whole r.turn)) (rows_whole rs)

pub rounds_are : (s : List ℕ) (g : Gate) (t : Rounds) (h : WalkTells s g t) → h.rounds ≡ map row_with t.rows
rounds_are s g t h = sym (rows_whole h.rounds) ∙ ap (map row_with) h.told
