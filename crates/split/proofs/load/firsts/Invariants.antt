use Rattle.book.specs.Format.{first_pin}
use Rattle.book.specs.Listed.{listed}
use Rattle.std.specs.Prelude.{◌≡◌, take}
use Rattle.split.proofs.load.firsts.Given as goal

abbrev pub invariant-loop-n : goal.invariant-loop-n
invariant-loop-n l =
    (l.sum ≡ first_pin l.netlist.bytes.now l.n) × (take l.n l.out ≡ listed (first_pin l.netlist.bytes.now) l.n)
