use Rattle.std.specs.Fmt.{HasWritten, IsPlainFormatter}
use Rattle.trial.specs.Said.{on, off, picked_text}
use Rattle.trial.proofs.said.ModulesDisplay.fmt.Given as goal

abbrev pub invariant-loop-m : goal.invariant-loop-m
invariant-loop-m g l =
    IsPlainFormatter l.initial.f → HasWritten g.W.Write.write_str_gives l.initial.f (picked_text (on l.side) l.m-counter) l.f

abbrev pub invariant-loop-m-2 : goal.invariant-loop-m-2
invariant-loop-m-2 g l =
    IsPlainFormatter l.initial.f → HasWritten g.W.Write.write_str_gives l.initial.f (picked_text (off l.side) l.m-counter) l.f
