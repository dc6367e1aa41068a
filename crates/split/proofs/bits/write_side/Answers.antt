use Rattle.std.specs.Prelude.{ℕ, ◌+◌, List}
use mathlib.Core.Path.{sym, subst}
use Rattle.split.proofs.Rows.{written_next}
use Rattle.split.specs.Writes.{Written}
use native.Mathlib.Omega.{arith}
use Rattle.split.proofs.bits.write_side.Goals as goal

pub loop-m-preserved : goal.loop-m-preserved
loop-m-preserved c = subst (λ (l : List ℕ). Written c.args.how.now c.args.reached (c.loop-m.m + 1) c.args.out.now l) (sym c.write_module.ensures) (written_next c.args.how.now c.args.reached c.loop-m.m c.args.out.now c.loop-m.out c.picked.result c.picked.ensures (omega (arith, c.loop-m.invariant.long)) c.loop-m.invariant)
