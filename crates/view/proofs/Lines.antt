-- The lines of a listing: how long each is, and a module's by whether it is on the side. Assumes nothing.
use Prim.Native.Nat.{ℕ, suc, ◌+◌, ◌≤◌}
use mathlib.Core.Path.{◌≡◌, refl, ap, ◌∙◌}
use mathlib.Core.Bool.{true, false}
use mathlib.Core.List.{List, [], ◌∷◌, ◌++◌}
use native.Mathlib.Decide.{le_ind}
use native.Mathlib.Nat.{le_refl}
use native.Mathlib.Numerals.{add-one}
use native.Mathlib.Omega.{arith}
use lib.ListN.{length, length-append}
use Rattle.line.specs.Card.{Side, count_to}
use Rattle.book.specs.Format.{modules}
use Rattle.book.specs.Cards.{area_of}
use Rattle.book.specs.Answer.{number_of, place_of}
use Rattle.book.specs.declared.Refusal.{Refusal}
use Rattle.view.specs.Text.{bytes, decimal, module_line, module_lines, pair_line, side_text, refused_text}

pub line_feed : bytes "\n" ≡ 10 ∷ []
unfolding bytes
line_feed = refl

pub pair_long : (first : List ℕ) (n : ℕ) (second : List ℕ) (k : ℕ) → length (pair_line first n second k) ≡ length (first ++ decimal n) + length (second ++ decimal k) + 1
pair_long first n second k =
    omega
    (arith, length-append (first ++ decimal n ++ (second ++ decimal k)) (bytes "\n"), length-append (first ++ decimal n) (second ++ decimal k), ap length line_feed)

pub line_on : (x : Side) (m : ℕ) → x m ≡ true → module_line x m ≡ decimal m ++ bytes "\n"
line_on x m e = rw e refl

pub line_off : (x : Side) (m : ℕ) → x m ≡ false → module_line x m ≡ []
line_off x m e = rw e refl

pub line_long : (x : Side) (m : ℕ) → x m ≡ true → length (module_line x m) ≡ length (decimal m) + 1
line_long x m e = ap length (line_on x m e) ∙ omega (arith, length-append (decimal m) (bytes "\n"), ap length line_feed)

pub lines_next : (x : Side) (m : ℕ) → module_lines x (m + 1) ≡ module_lines x m ++ module_line x m
unfolding module_lines
lines_next x m = rw (add-one m) refl

pub lines_long : (x : Side) (m : ℕ) → length (module_lines x (m + 1)) ≡ length (module_lines x m) + length (module_line x m)
lines_long x m = ap length (lines_next x m) ∙ length-append (module_lines x m) (module_line x m)

pub lines_grow : (x : Side) (m n : ℕ) → m ≤ n → length (module_lines x m) ≤ length (module_lines x n)
lines_grow x m n l = le_ind {n = m} (λ k. length (module_lines x m) ≤ length (module_lines x k)) (le_refl (length (module_lines x m))) more n l
  where
    more : (k : ℕ) → m ≤ k → length (module_lines x m) ≤ length (module_lines x k) → length (module_lines x m) ≤ length (module_lines x (suc k))
    more k _ h = rw (← (add-one k)) (omega (arith, h, lines_long x k))

-- the text of a side, from its count, its area and how many modules there are
pub side-text : (name s : List ℕ) (x : Side) (c a m : ℕ) → c ≡ count_to x (modules s) → a ≡ area_of s x → m ≡ modules s → pair_line name c (bytes " modules area ") a ++ module_lines x m ≡ side_text name s x
unfolding side_text
side-text name s x c a m e f g = λ i. pair_line name (e i) (bytes " modules area ") (f i) ++ module_lines x (g i)

pub refused-text : (why : Refusal) (n p : ℕ) → n ≡ number_of why → p ≡ place_of why → pair_line (bytes "refused ") n (bytes " at ") p ≡ refused_text why
unfolding refused_text
refused-text why n p e f = λ i. pair_line (bytes "refused ") (e i) (bytes " at ") (f i)
