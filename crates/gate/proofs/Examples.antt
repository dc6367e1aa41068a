-- Gates tried at the desk, as one table with a single claim (`desk`): each is bad, or has the band and the verdicts that stand there, with a total area of 11. Assumes nothing.
use mathlib.Core.Path.{◌≡◌, refl}
use mathlib.Core.Bool.{true, false, cond}
use mathlib.Core.List.{List, [], ◌∷◌, map}
use Prim.Native.Nat.{ℕ}
use lib.IntN.{pos, negsuc}
use lib.Ieee.{Float, nan, inf, fin, add, sub, mul, of_int, le, lt}
use Rattle.gate.specs.Gates.{zero_f, one_f, top_f, good_gate, band_of, gate_says}
use Rattle.gate.specs.declared.Gate.{Gate}
use Rattle.gate.specs.declared.Gate.TheVariants.{Open, Share, Bounds}
use Rattle.gate.specs.declared.Verdict.{Verdict}
use Rattle.gate.specs.declared.Verdict.TheVariants.{Below, Within, Above}

-- a bad gate is refused; a good one says this of the areas 4, 5, 6, 7 and 8
data Answer : Type 0 where
  refused : Answer
  says : Float → Float → List Verdict → Answer

abbrev answered : Gate → Answer
answered g = cond (good_gate g) (says (band_of g 11).low (band_of g 11).high (map (gate_says g 11) (4 ∷ 5 ∷ 6 ∷ 7 ∷ 8 ∷ []))) refused

record Case : Type 0 where
  gate : Gate
  answer : Answer

abbrev good : Gate → Float → Float → List Verdict → Case
good g low high vs = record { gate = g; answer = says low high vs }

abbrev bad : Gate → Case
bad g = record { gate = g; answer = refused }

abbrev whole : ℕ → Float
whole n = fin false n (pos 0)

-- n / 2, n / 4, n / 8
abbrev halves : ℕ → Float
halves n = fin false n (negsuc 0)

abbrev quarters : ℕ → Float
quarters n = fin false n (negsuc 1)

abbrev eighths : ℕ → Float
eighths n = fin false n (negsuc 2)

-- the doubles just below 1 and 11, just above 16777216, and just above 0
abbrev below_eleven : Float
below_eleven = fin false 6192449487634431 (negsuc 48)

abbrev below_one : Float
below_one = fin false 9007199254740991 (negsuc 52)

abbrev over_top : Float
over_top = fin false 4503599627370497 (negsuc 27)

abbrev least_f : Float
least_f = fin false 1 (negsuc 1073)

abbrev minus_zero : Float
minus_zero = fin true 0 (pos 0)

abbrev minus_one : Float
minus_one = fin true 1 (pos 0)

abbrev all : Verdict → List Verdict
all v = v ∷ v ∷ v ∷ v ∷ v ∷ []

abbrev cases : List Case
cases =
    good Open zero_f top_f (all Within)
    ∷ good (Share (halves 1) (quarters 1)) (eighths 33) (eighths 55) (Below ∷ Within ∷ Within ∷ Above ∷ Above ∷ [])
    ∷ good (Share (halves 1) zero_f) (halves 11) (halves 11) (Below ∷ Below ∷ Above ∷ Above ∷ Above ∷ [])
    ∷ good (Share (halves 1) minus_zero) (halves 11) (halves 11) (Below ∷ Below ∷ Above ∷ Above ∷ Above ∷ [])
    ∷ good (Bounds (whole 5) (whole 7)) (whole 5) (whole 7) (Below ∷ Within ∷ Within ∷ Within ∷ Above ∷ [])
    ∷ good (Bounds (whole 6) (whole 6)) (whole 6) (whole 6) (Below ∷ Below ∷ Within ∷ Above ∷ Above ∷ [])
    ∷ good (Bounds minus_zero top_f) minus_zero top_f (all Within)
    ∷ good (Bounds top_f top_f) top_f top_f (all Below)
    ∷ good (Share least_f below_one) zero_f (fin false 11 (negsuc 1072)) (all Above)
    ∷ good (Share below_one zero_f) below_eleven below_eleven (all Below)
    ∷ bad (Share nan zero_f)
    ∷ bad (Share (halves 1) nan)
    ∷ bad (Share (inf false) zero_f)
    ∷ bad (Share (inf true) zero_f)
    ∷ bad (Share (halves 1) (inf false))
    ∷ bad (Share (halves 1) (inf true))
    ∷ bad (Share zero_f zero_f)
    ∷ bad (Share minus_zero zero_f)
    ∷ bad (Share minus_one zero_f)
    ∷ bad (Share one_f zero_f)
    ∷ bad (Share (halves 1) one_f)
    ∷ bad (Share (halves 1) minus_one)
    ∷ bad (Bounds nan (whole 7))
    ∷ bad (Bounds (whole 5) nan)
    ∷ bad (Bounds (inf false) (inf false))
    ∷ bad (Bounds (inf true) (whole 7))
    ∷ bad (Bounds (whole 5) (inf false))
    ∷ bad (Bounds (whole 5) (inf true))
    ∷ bad (Bounds (whole 7) (whole 5))
    ∷ bad (Bounds minus_one (whole 7))
    ∷ bad (Bounds zero_f over_top)
    ∷ []

desk : map (λ t. answered t.gate) cases ≡ map (λ t. t.answer) cases
unfolding add sub mul of_int le lt
desk = refl
