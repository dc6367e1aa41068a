-- `side::Sided::spare_clear` meets its contract: each way out knows whether the modules fill their bytes. Assumes nothing.
use borrow.Author.Tests.{eq-eqb, ne_eqb}
use mathlib.Core.Path.{sym, ap, ◌∙◌}
use Prim.Native.Nat.{ℕ, ◌%◌}
use Rattle.book.specs.Format.{modules}
use Rattle.side.proofs.Sided.spare_clear.Goals as goal

pub returns-then-j-eq0 : goal.returns-then-j-eq0
returns-then-j-eq0 c = rw (eq-eqb (modules c.args.self.netlist.bytes.now % 8) 0 (ap (λ (k : ℕ). k % 8) (sym c.modules-m.ensures) ∙ c.if-j-eq0.true))

pub returns : goal.returns
returns c = rw (c.modules-m.ensures, ne_eqb (modules c.args.self.netlist.bytes.now % 8) 0 (λ e. c.if-j-eq0.false (ap (λ (k : ℕ). k % 8) c.modules-m.ensures ∙ e)))
