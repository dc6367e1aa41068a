-- What the parts of a round leave in their rows of bytes. This page holds definitions only.
use Rattle.std.specs.Prelude.{◌≡◌, ℕ, ◌<◌, Bool, true, false, ◌&&◌, ◌||◌, List, length, slice_index, Option}
use Rattle.std.proofs.Math.Seq.{paste}
use Rattle.line.specs.Card.{Side, outside, touches, crosses, pin}
use Rattle.line.specs.Flow.{only}
use Rattle.book.specs.First.{or_else, lowest}
use Rattle.book.specs.Cards.{net_of, nets_of, pins_of}
use Rattle.side.specs.Sides.{side_of}
use Rattle.walk.specs.declared.choose.Half.{Half}
use Rattle.walk.specs.Walk.{on_cut, free_in}

-- The modules inside X, or those outside it, as is asked.
abbrev pub side_from : Bool → Side → Side
side_from true x = x
side_from false x = outside x

abbrev pub half_of : Half → Side
half_of h = side_from h.on (side_of h.x.now)

-- The marks that the bytes are, one a module.
abbrev pub marks_of : List ℕ → ℕ → ℕ
marks_of k m = slice_index k m

-- No bit is set.
pub record Cleared (old new : List ℕ) : Type 0 where
  pub long : length new ≡ length old
  pub clear : (m : ℕ) → side_of new m ≡ false

-- The modules of y were put on the side.
pub record Adds (y : Side) (old new : List ℕ) : Type 0 where
  pub long : length new ≡ length old
  pub side : (m : ℕ) → side_of new m ≡ (side_of old m || y m)

-- The modules with a pin on net n, and those of them where X cuts it.
abbrev pub on_net : List ℕ → ℕ → Side
on_net s n m = touches (only m) (pins_of s n)

abbrev pub on_cut_net : List ℕ → Side → ℕ → Side
on_cut_net s x n m = crosses x (net_of s n) && on_net s n m

-- The row has the modules with a pin on a net that X cuts.
pub record CutRow (s : List ℕ) (x : Side) (old new : List ℕ) : Type 0 where
  pub long : length new ≡ length old
  pub cut : (m : ℕ) → side_of new m ≡ on_cut (nets_of s) x m

-- A free module of y that is in the row too; the lowest such; failing that the lowest free one of y.
abbrev pub free_in_row : List ℕ → Side → List ℕ → ℕ → Bool
free_in_row k y cut m = free_in (marks_of k) y m && side_of cut m

abbrev pub choice_in : List ℕ → Side → List ℕ → Option ℕ
choice_in k y cut = or_else (lowest (free_in_row k y cut) (length k)) (lowest (free_in (marks_of k) y) (length k))

-- The free modules of y below i are pinned to n, and the other marks are as they were.
pub record Pinned (n : ℕ) (y : Side) (i : ℕ) (old new : List ℕ) : Type 0 where
  pub long : length new ≡ length old
  pub done : (m : ℕ) → m < i → slice_index new m ≡ pin n y (marks_of old) m
  pub rest : (m : ℕ) → ¬ (m < i) → slice_index new m ≡ slice_index old m

-- The bytes with new ones written over them from a place on.
abbrev pub over_at : ℕ → List ℕ → List ℕ → List ℕ
over_at at new old = paste old at new (length new)
