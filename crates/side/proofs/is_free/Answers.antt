-- `side::is_free` meets its contract, by each way out. Assumes nothing.
use mathlib.Core.Path.{sym}
use borrow.Author.Tests.{lt-ltb, le-ltb}
use Rattle.book.specs.Format.{modules}
use Rattle.side.specs.Moves.{is_free}
use native.Mathlib.Omega.{arith}
use Rattle.side.proofs.is_free.Goals as goal

pub returns-then-m-modules : goal.returns-then-m-modules
unfolding is_free
returns-then-m-modules c = rw (le-ltb c.args.m (modules c.args.netlist.bytes.now) (omega arith))

pub returns : goal.returns
unfolding is_free
returns c = rw (lt-ltb c.args.m (modules c.args.netlist.bytes.now) (omega arith), sym c.mark.ensures) c.is_free.ensures
