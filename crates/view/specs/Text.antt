-- The listing's text, byte by byte, as document 01 prints it for Bridge. This page holds definitions only.
use Rattle.std.specs.Prelude.{ℕ, zero, suc, ◌+◌, ◌/◌, ◌%◌, cond, List, [], ◌∷◌, ◌++◌, ltb}
use Prim.Native.Char.{code}
use Prim.Native.String.{String}
use Prim.Native.String as string
use Rattle.line.specs.Card.{Side, count_to}
use Rattle.book.specs.Format.{modules}
use Rattle.book.specs.Cards.{area_of}
use Rattle.book.specs.Answer.{number_of, place_of}
use Rattle.book.specs.declared.Refusal.{Refusal}

-- A text of ASCII, a byte a character.
unfoldable pub bytes : String → List ℕ
bytes string.[] = []
bytes (string.◌∷◌ c t) = code c ∷ bytes t

-- The byte of a digit.
abbrev pub digit : ℕ → ℕ
digit d = code "0" + d

-- The decimal digits of a number, the highest first: its last digit after those of a tenth of it, where it has more than one. The first number bounds how many there are.
unfoldable pub digits : ℕ → ℕ → List ℕ
digits zero n = []
digits (suc k) n = cond (ltb n 10) [] (digits k (n / 10)) ++ (digit (n % 10) ∷ [])

-- A number in decimal, with no zero in front; 0 is "0". A number n has at most n + 1 digits.
abbrev pub decimal : ℕ → List ℕ
decimal n = digits (suc n) n

-- A module of the side has a line, its number; another has none.
abbrev pub module_line : Side → ℕ → List ℕ
module_line x m = cond (x m) (decimal m ++ bytes "\n") []

-- The modules of the side below so many, one a line, rising.
unfoldable pub module_lines : Side → ℕ → List ℕ
module_lines x zero = []
module_lines x (suc m) = module_lines x m ++ module_line x m

-- A line of a word and a number, then another word and number.
abbrev pub pair_line : List ℕ → ℕ → List ℕ → ℕ → List ℕ
pair_line first n second k = first ++ decimal n ++ (second ++ decimal k) ++ bytes "\n"

-- A side of a book: how many modules it has, their area, and which they are. The word stays `modules` for one.
unfoldable pub side_text : List ℕ → List ℕ → Side → List ℕ
side_text name s x = pair_line name (count_to x (modules s)) (bytes " modules area ") (area_of s x) ++ module_lines x (modules s)

-- A book that is split: its price, its near side and its far side.
unfoldable pub split_text : List ℕ → ℕ → Side → Side → List ℕ
split_text s p near far = bytes "price " ++ decimal p ++ bytes "\n" ++ side_text (bytes "near ") s near ++ side_text (bytes "far ") s far

-- A refusal: its number and its place.
unfoldable pub refused_text : Refusal → List ℕ
refused_text why = pair_line (bytes "refused ") (number_of why) (bytes " at ") (place_of why)
