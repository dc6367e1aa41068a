-- The first find among n places, for every check and every search alike: what the first place that finds something finds. This page holds definitions only.
use Rattle.std.specs.Prelude.{ℕ, zero, suc, ◌+◌, Bool, true, false, Option, Some, None}

-- the place, where the test holds
abbrev pub find_if : Bool → ℕ → Option ℕ
find_if true place = Some place
find_if false place = None

-- the one find, or failing that the other
abbrev pub or_else : Option ℕ → Option ℕ → Option ℕ
or_else (Some place) other = Some place
or_else None other = other

-- what the first of f 0, f 1, .., f (n - 1) that finds something finds
unfoldable pub first : (ℕ → Option ℕ) → ℕ → Option ℕ
first f zero = None
first f (suc n) = or_else (first f n) (f n)

-- the first of the places 0, 1, .., n - 1 at which the test holds
unfoldable pub lowest : (ℕ → Bool) → ℕ → Option ℕ
lowest t n = first (λ k. find_if (t k) k) n

-- a place counted from another
abbrev pub from : ℕ → Option ℕ → Option ℕ
from start (Some place) = Some (start + place)
from start None = None

abbrev pub is_nothing : Option ℕ → Bool
is_nothing (Some place) = false
is_nothing None = true
