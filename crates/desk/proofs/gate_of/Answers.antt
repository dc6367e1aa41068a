-- `desk::gate_of` meets its contract: each arm is the case of its number. Assumes nothing.
use borrow.Author.Tests.{ne_eqb}
use lib.Ieee.{of_bits}
use Rattle.desk.proofs.gate_of.Goals as goal

pub returns-in-0 : goal.returns-in-0
returns-in-0 c = rw c.in-0.is

pub returns-in-1 : goal.returns-in-1
returns-in-1 c = rw c.in-1.is

pub returns-in-2 : goal.returns-in-2
returns-in-2 c = rw c.in-2.is

pub returns-in_default : goal.returns-in_default
unfolding of_bits
returns-in_default c =
    let gate = c.args.gate in
    let m = c.in_default.in_default-own.rest in
    rw (ne_eqb gate 0 m.0.0.1, ne_eqb gate 1 m.0.1, ne_eqb gate 2 m.1)
