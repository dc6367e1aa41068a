-- What is printed of an answer.
use Rattle.std.specs.Prelude.{⊤, ℕ, ◌+◌, ◌-◌, ◌*◌, ◌/◌, ◌^◌, suc, zero, Bool, ◌&&◌, not, List, [], ◌∷◌, ◌++◌, length, min, nat_lt, codes, Option, Some, Result, Ok, Err, if◌then◌else◌}
use Rattle.std.specs.Fmt.{decimal}
use Rattle.book.specs.declared.Refusal.{Refusal}
use Rattle.book.specs.Answer.{number_of, place_of}
use Rattle.side.specs.Sides.{side_of}
use Rattle.trial.specs.declared.said.Modules.{Modules}
use Rattle.trial.specs.declared.said.Modules.TheVariants.{On, AllBut}

abbrev pub refused_text : Refusal → List ℕ
refused_text why = codes "refused " ++ decimal (number_of why) ++ codes " at " ++ decimal (place_of why)

-- the answer's own text, or that of its refusal
abbrev pub answer_text : {T : Type 0} → (T → Option (List ℕ)) → Result T Refusal → Option (List ℕ)
answer_text text (Ok x) = text x
answer_text text (Err why) = Some (refused_text why)

-- what the checker says
abbrev pub checked_text : Result ⊤ Refusal → List ℕ
checked_text (Ok _) = codes "accepted"
checked_text (Err why) = refused_text why

abbrev pub tails_text : Bool → List ℕ
tails_text kept = if kept then codes "tails kept" else codes "a tail lost"

-- a refusal, and whether it left what was lent as it was
abbrev pub unwritten_text : Refusal → Bool → List ℕ
unwritten_text why kept =
    refused_text why ++ codes " " ++ (if kept then codes "nothing" else codes "something") ++ codes " written"

-- whether module m is on a side, or off it, within the buffer
abbrev pub on : List ℕ → ℕ → Bool
on side m = nat_lt (m / 8) (length side) && side_of side m

abbrev pub off : List ℕ → ℕ → Bool
off side m = nat_lt (m / 8) (length side) && not (side_of side m)

-- those of the first n modules that are picked, each behind a space
abbrev pub picked_text : (ℕ → Bool) → ℕ → List ℕ
picked_text pick zero = []
picked_text pick (suc n) = picked_text pick n ++ (if pick n then 32 ∷ decimal n else [])

-- the modules on a side, its spare bits too, or those that it lacks
abbrev pub modules_text : Modules → List ℕ
modules_text (On side count) = picked_text (on side.now) (min (8 * ((count + 7) / 8)) (2 ^ 64 - 1))
modules_text (AllBut side count) = codes " all but" ++ picked_text (off side.now) count
