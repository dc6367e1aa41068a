-- A side: a row of bits, module m at bit m mod 8 of byte m div 8. Definitions only.
use Rattle.std.specs.Prelude.{ℕ, ◌+◌, ◌*◌, ◌-◌, ◌/◌, ◌%◌, ◌^◌, ◌≤◌, ◌<◌, List, [], ◌∷◌, ◌≡◌, Bool, ◌||◌, eqb, get_or, set}
use Rattle.std.specs.Int.Bits.{bit_and, bit_or}
use Rattle.line.specs.Card.{Side}

-- bit m of a row of words of w bits, 0 or 1
abbrev pub bit_in : ℕ → List ℕ → ℕ → ℕ
bit_in w l m = get_or l (m / w) 0 / 2 ^ (m % w) % 2

-- module m's bit, and the side that the bytes are: whether module m is on it
abbrev pub bit_at : List ℕ → ℕ → ℕ
bit_at l m = bit_in 8 l m

abbrev pub side_of : List ℕ → Side
side_of l m = eqb (bit_at l m) 1

-- the bytes that a side of m modules needs
abbrev pub bytes_for : ℕ → ℕ
bytes_for m = (m + 7) / 8

-- every number of the list is a byte
abbrev pub Bytes : List ℕ → Type 0
Bytes l = (i : ℕ) → get_or l i 0 < 256

-- the bits from m on, in the first n words, are 0
abbrev pub ClearFrom : ℕ → List ℕ → ℕ → ℕ → Type 0
ClearFrom w l m n = (k : ℕ) → m ≤ k → k < n * w → bit_in w l k ≡ 0

-- the spare bits of a side of m modules are 0
abbrev pub SpareClear : List ℕ → ℕ → Type 0
SpareClear l m = ClearFrom 8 l m (bytes_for m)

-- the test of it: there are none, or the last byte has nothing from bit m mod 8 on
abbrev pub spare_test : List ℕ → ℕ → Bool
spare_test l m = eqb (m % 8) 0 || eqb (get_or l (m / 8) 0 / 2 ^ (m % 8)) 0

-- the side with module m put on it, and with it taken off
abbrev pub with_bit : List ℕ → ℕ → List ℕ
with_bit l m = set l (m / 8) (bit_or (get_or l (m / 8) 0) (2 ^ (m % 8)))

abbrev pub without_bit : List ℕ → ℕ → List ℕ
without_bit l m = set l (m / 8) (bit_and (get_or l (m / 8) 0) (255 - 2 ^ (m % 8)))

-- two rows of bytes taken byte by byte, as far as both go: what is on both sides, and what is on either
unfoldable pub bytewise : (ℕ → ℕ → ℕ) → List ℕ → List ℕ → List ℕ
bytewise f [] k = []
bytewise f (a ∷ l) [] = []
bytewise f (a ∷ l) (b ∷ k) = f a b ∷ bytewise f l k

abbrev pub and_of : List ℕ → List ℕ → List ℕ
and_of l k = bytewise bit_and l k

abbrev pub or_of : List ℕ → List ℕ → List ℕ
or_of l k = bytewise bit_or l k
