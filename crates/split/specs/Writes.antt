-- A side written module by module, from what a search says of each. Definitions only.
use Rattle.std.specs.Prelude.{◌≡◌, ℕ, ◌/◌, ◌%◌, ◌<◌, Bool, true, false, cond, not, List, length, drop, ◌==◌, nat_lt, slice_index, slice_set}
use Rattle.side.specs.Sides.{side_of, bytes_for, SpareClear, with_bit}

-- the byte of module m cleared, where m is its first
abbrev pub opened : ℕ → List ℕ → List ℕ
opened m l = cond (m % 8 == 0) (slice_set l (m / 8) 0) l

abbrev pub wrote : ℕ → Bool → List ℕ → List ℕ
wrote m on l = cond on (with_bit (opened m l) m) (opened m l)

-- a search's number for a module says that it was reached, or that it was not, as is asked
abbrev pub picked_of : Bool → ℕ → Bool
picked_of true x = nat_lt 0 x
picked_of false x = not (nat_lt 0 x)

-- the modules below m are written, the spare bits are 0, and the bytes after are as they were
pub record Written (how : List ℕ) (reached : Bool) (m : ℕ) (old new : List ℕ) : Type 0 where
  pub long : length new ≡ length old
  pub side : (k : ℕ) → k < m → side_of new k ≡ picked_of reached (slice_index how k)
  pub spare : SpareClear new m
  pub tail : drop (bytes_for m) new ≡ drop (bytes_for m) old
