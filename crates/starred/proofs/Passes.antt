-- Every case of the desk's table holds (`all_hold`): a case that passes one computed test holds (`means`), and all of them pass. A case more is no proof more. Assumes nothing.
use mathlib.Core.Path.{subst}
use mathlib.Core.Bool.{Bool, true, ◌&&◌}
use mathlib.Core.List.{List, [], ◌∷◌}
use Prim.Native.Nat.{ℕ}
use lib.Dec.{T}
use lib.Ieee.{Float, add, sub, mul, of_int, le, lt}
use Rattle.line.specs.Card.{touches, crosses, cost, price, area_to, pin, whole_area}
use Rattle.line.proofs.Bools.{and_l, and_r}
use Rattle.line.proofs.Trial.{near_by}
use Rattle.book.specs.First.{first, lowest}
use Rattle.book.specs.Listed.{listed}
use Rattle.book.specs.Format.{area, u16, u32, field, entry_is, laid, first_pin}
use Rattle.book.specs.Checks.{counted, bad_module, bad_net, bad_pin, check3, check4, check5, lacks, rest_of, read_of}
use Rattle.book.specs.Cards.{card_of}
use Rattle.side.specs.Given.{misplaced, separates, is_short, is_good, given_sound, given}
use Rattle.side.specs.Prices.{priced}
use Rattle.side.specs.Moves.{is_free, changed_good, changed}
use Rattle.audit.specs.Rules.{sum_to, bad_net_flow, check11, bad_module_flow, check12, balance_of, ruled_of}
use Rattle.audit.specs.Checker.{agree, checked_good, is_short_flow, checked_sound, checked_of}
use Rattle.gate.specs.Gates.{good_gate, band_of}
use Rattle.gate.specs.declared.Gate.{Gate}
use Rattle.walk.specs.Walk.{on_cut, choice, turn}
use Rattle.walk.specs.Call.{binary}
use Rattle.walk.proofs.Plain.{run}
use Rattle.starred.specs.Cases.{Call, Told, refused, Case, tells, refuses, works_out, Tells, Holds, Each}
use Rattle.starred.specs.Table.{table}
use Rattle.starred.proofs.Told.{worked_out, told}
use Rattle.starred.proofs.Calls.{trial, trial_tells}

-- ---- a case

-- trial tells the same
abbrev tells_so : (s : List ℕ) (k : Call) → Told k → Bool
tells_so s k t = (told k).same (trial s k) t

abbrev works_out_so : List ℕ → Gate → Float → Float → Bool
works_out_so s g low high = worked_out.same (band_of g (whole_area (card_of s) (area s))) (record { low = low; high = high })

abbrev pub passes : Case → Bool
passes (tells s k t) = tells_so s k t
passes (refuses s k n i) = tells_so s k (refused k n i)
passes (works_out s g low high) = good_gate g && works_out_so s g low high

so_tells : (s : List ℕ) (k : Call) (t : Told k) → T (tells_so s k t) → Tells s k t
so_tells s k t h = subst (Tells s k) ((told k).tells (trial s k) t h) (trial_tells s k)

pub means : (c : Case) → T (passes c) → Holds c
means (tells s k t) h = so_tells s k t h
means (refuses s k n i) h = so_tells s k (refused k n i) h
means (works_out s g low high) h = record {
  good = and_l (good_gate g) (works_out_so s g low high) h;
  band = worked_out.tells (band_of g (whole_area (card_of s) (area s))) (record { low = low; high = high }) (and_r (good_gate g) (works_out_so s g low high) h);
}

-- ---- the table

abbrev pub all_pass : List Case → Bool
all_pass [] = true
all_pass (c ∷ cs) = passes c && all_pass cs

pub all_mean : (cs : List Case) → T (all_pass cs) → Each Holds cs
all_mean [] h = tt
all_mean (c ∷ cs) h = (means c (and_l (passes c) (all_pass cs) h), all_mean cs (and_r (passes c) (all_pass cs) h))

pub all_hold : Each Holds table
unfolding priced changed changed_good is_free given given_sound is_good is_short separates misplaced price cost crosses touches listed read_of rest_of lacks check5 check4 check3 bad_pin bad_net bad_module counted first_pin laid entry_is field u32 u16 lowest first checked_of checked_sound is_short_flow checked_good agree ruled_of balance_of check12 bad_module_flow check11 bad_net_flow sum_to run near_by pin area_to on_cut choice turn binary add sub mul of_int le lt
all_hold = all_mean table tt
