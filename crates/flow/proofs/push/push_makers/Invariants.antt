-- `flow::push::push_makers` meets its contract: the makers below `z` have been pushed from (`Rounded`). Assumes nothing.
use Rattle.flow.specs.Raise.{Rounded}
use Rattle.flow.proofs.push.push_makers.Given as goal

abbrev pub invariant-loop-z : goal.invariant-loop-z
invariant-loop-z l =
    let s = l.ways in
    Rounded s.mods.now s.weight.now s.nets.now s.mark.now s.how.now l.initial.sums l.initial.flow l.z l.any l.sums l.flow
