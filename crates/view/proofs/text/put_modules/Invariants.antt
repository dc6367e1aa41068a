-- `view::text::put_modules` meets its contract: the lines of the modules below `m` stand. Assumes nothing.
use Rattle.side.specs.Sides.{side_of}
use Rattle.view.specs.Puts.{Put}
use Rattle.view.specs.Text.{module_lines}
use Rattle.view.proofs.text.put_modules.Given as goal

abbrev pub invariant-loop-m : goal.invariant-loop-m
invariant-loop-m l =
    Put (module_lines (side_of l.side) l.m) l.at l.initial.out l.next l.out
