use Rattle.split.proofs.Loads.{sound_netlist, first-zero, first_most}
use Rattle.split.proofs.Fills.{fill_start, fill_next, filled}
use Rattle.book.proofs.CardLaws.{first_pin-suc}
use Rattle.book.specs.Format.{first_pin, nets}
use Rattle.book.specs.Listed.{listed}
use Rattle.std.specs.Prelude.{◌≡◌, ◌+◌, take, set}
use lib.ListN.{length-set}
use mathlib.Core.Path.{ap, ◌∙◌}
use native.Mathlib.Omega.{arith}
use Rattle.split.proofs.load.firsts.Goals as goal

pub loop-n-init : goal.loop-n-init
loop-n-init c = (first-zero _, fill_start _ c.args.out.now)

pub overflow_cast-out : goal.overflow_cast-out
overflow_cast-out c = omega (arith, first_most c.args.netlist.bytes.now (sound_netlist c.args.netlist) c.loop-n.n (omega (arith, c.nets-count.ensures)), (sound_netlist c.args.netlist).few_pins, c.loop-n.invariant.0)

pub overflow_add-sum : goal.overflow_add-sum
overflow_add-sum c = omega (arith, first_most c.args.netlist.bytes.now (sound_netlist c.args.netlist) c.loop-n.n (omega (arith, c.nets-count.ensures)), (sound_netlist c.args.netlist).few_pins, c.loop-n.invariant.0, c.pin_count-sum.ensures.1)

pub loop-n-preserved : goal.loop-n-preserved
loop-n-preserved c = (omega (arith, c.loop-n.invariant.0, c.pin_count-sum.ensures.0, first_pin-suc c.args.netlist.bytes.now c.loop-n.n), fill_next (first_pin c.args.netlist.bytes.now) c.loop-n.out c.loop-n.n c.loop-n.sum c.loop-n.invariant.1 (omega (arith, c.loop-n.auto.out, c.nets-count.ensures, c.requires)) (c.loop-n.invariant.0))

pub returns : goal.returns
returns c = let s = c.args.netlist.bytes.now in
    let out = c.loop-n.out in
    let k = c.nets-count.result in
    let e : c.loop-n.n ≡ k = omega arith in
    let h : take k out ≡ listed (first_pin s) k = rw e at c.loop-n.invariant.1 in
    let g : c.loop-n.sum ≡ first_pin s k = c.loop-n.invariant.0 ∙ ap (first_pin s) e in
    filled (first_pin s) (set out k c.loop-n.sum) (k + 1) (nets s + 1)
    (fill_next (first_pin s) out k c.loop-n.sum h (omega (arith, c.loop-n.auto.out, c.nets-count.ensures, c.requires)) g)
    (omega (arith, length-set out k c.loop-n.sum, c.loop-n.auto.out, c.requires)) (omega (arith, c.nets-count.ensures))
