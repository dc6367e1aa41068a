-- `walk::cut::cut_row` meets its contract: the modules on cut nets before `n` are put on, and `first` is the place of the first pin of net `n`. Assumes nothing.
use Rattle.split.proofs.Loads.{first-zero, sound_netlist, few_pins}
use Rattle.walk.proofs.Cuts.{cleared, cut_start, cut_next, cut-row}
use Rattle.walk.specs.Parts.{Cleared}
use Rattle.side.proofs.Places.{next_within}
use Rattle.side.specs.Sides.{side_of}
use Rattle.book.proofs.CardLaws.{first_pin-suc}
use Rattle.std.specs.Prelude.{ℕ, ◌+◌}
use mathlib.Core.Path.{sym, ap₂, ◌∙◌, subst}
use native.Mathlib.Omega.{arith}
use Rattle.walk.proofs.cut.cut_row.Goals as goal

pub loop-n-init : goal.loop-n-init
loop-n-init c =
    let a = c.args in
    (first-zero a.sided.netlist.bytes.now, cut_start a.sided.netlist.bytes.now (side_of a.sided.bits.now) _)

pub overflow_add-first : goal.overflow_add-first
overflow_add-first c =
    let a = c.args in
    let i = c.loop-n in
    omega (arith, few_pins a.sided.netlist, c.pin_count-first.ensures.0, next_within a.sided.netlist.bytes.now (sound_netlist a.sided.netlist) i.n (omega arith))

pub loop-n-preserved : goal.loop-n-preserved
loop-n-preserved c =
    let a = c.args in
    let i = c.loop-n in
    let put-cut' = c.put_cut in
    (ap₂ (λ (p q : ℕ). p + q) i.invariant.0 c.pin_count-first.ensures.0 ∙ sym (first_pin-suc a.sided.netlist.bytes.now i.n), cut_next a.sided.netlist.bytes.now (side_of a.sided.bits.now) i.n _ i.out _ (omega arith) i.invariant.1 put-cut'.ensures)

pub returns : goal.returns
returns c =
    let a = c.args in
    let i = c.loop-n in
    cut-row a.sided.netlist.bytes.now (side_of a.sided.bits.now) i.n a.out.now _ i.out (omega (arith, i.auto.n-end, c.nets-n-end.ensures)) (subst (Cleared a.out.now) (sym (c.fill.ensures.after (λ y e. e))) (cleared a.out.now)) i.invariant.1
