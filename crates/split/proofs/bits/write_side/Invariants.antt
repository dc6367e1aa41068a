use Rattle.split.specs.Writes.{Written}
use Rattle.split.proofs.bits.write_side.Given as goal

abbrev pub invariant-loop-m : goal.invariant-loop-m
invariant-loop-m l =
    Written l.how l.reached l.m l.initial.out l.out
