-- The bytes that a book is made of: little-endian numbers, one after the other.
use Rattle.std.specs.Prelude.{ℕ, ◌+◌, ◌-◌, ◌^◌, List, ◌++◌, min}
use Rattle.std.specs.Int.{to_le_bytes, w16, w32}

abbrev pub two_bytes : ℕ → List ℕ
two_bytes x = to_le_bytes w16 x

abbrev pub four_bytes : ℕ → List ℕ
four_bytes x = to_le_bytes w32 x

-- an entry of the contents: a kind of body, where it starts and its length, each at most what four bytes hold
abbrev pub entry : ℕ → ℕ → ℕ → List ℕ
entry kind start size =
    two_bytes kind ++ four_bytes (min start (2 ^ 32 - 1)) ++ four_bytes (min size (2 ^ 32 - 1))

-- the contents over three bodies of these lengths
abbrev pub contents : ℕ → ℕ → ℕ → List ℕ
contents modules nets pins =
    two_bytes 3 ++ entry 1 32 modules ++ entry 2 (32 + modules) nets ++ entry 3 (32 + modules + nets) pins
