-- `side::less` meets its contract: the difference is small. Assumes nothing.
use mathlib.Core.Path.{◌≡◌, sym, subst, ap₂, ◌∙◌}
use lib.IntN.{pos, ◌-ℤ◌}
use mir.Syntax.{w64}
use mir.Val.{SFits, to_z}
use mir.ValLaws.{to_z-of_z}
use Rattle.side.proofs.Moves.{difference_small}
use native.Mathlib.Omega.{arith}
use Rattle.side.proofs.less.Goals as goal
use Rattle.side.proofs.less.Goals.{Start}

-- the machine reads back the numbers that were cast
gained_is : (c : Start) → to_z w64 c.args.gained ≡ pos c.args.gained
gained_is c = to_z-of_z w64 (pos c.args.gained) (record { sfits = omega arith })

lost_is : (c : Start) → to_z w64 c.args.lost ≡ pos c.args.lost
lost_is c = to_z-of_z w64 (pos c.args.lost) (record { sfits = omega arith })

fits : (c : Start) → SFits w64 (pos c.args.gained -ℤ pos c.args.lost)
fits c = record { sfits = omega (arith, difference_small c.args.gained c.args.lost) }

pub overflow_sub-result : goal.overflow_sub-result
overflow_sub-result c = subst (SFits w64) (sym (ap₂ ◌-ℤ◌ (gained_is (goal.at.overflow_sub-result c).Start) (lost_is (goal.at.overflow_sub-result c).Start))) (fits (goal.at.overflow_sub-result c).Start)

pub returns : goal.returns
returns c = to_z-of_z w64 _ (overflow_sub-result c) ∙ ap₂ ◌-ℤ◌ (gained_is (goal.at.returns c).Start) (lost_is (goal.at.returns c).Start)
