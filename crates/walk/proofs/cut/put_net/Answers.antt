-- `walk::cut::put_net` meets its contract: the modules of the pins before pin `j` are put on. Assumes nothing.
use Rattle.walk.proofs.Cuts.{net_start, net_next, net_all}
use native.Mathlib.Omega.{arith}
use Rattle.walk.proofs.cut.put_net.Goals as goal

pub loop-j-init : goal.loop-j-init
loop-j-init c = (net_start c.args.netlist.bytes.now c.args.n c.args.out.now)

pub loop-j-preserved : goal.loop-j-preserved
loop-j-preserved c =
    let a = c.args in
    let p = c.requires in
    let i = c.loop-j in
    let pin-of' = c.pin_of in
    let put' = c.put in
    (net_next a.netlist.bytes.now a.n i.j a.out.now i.out _ pin-of'.result (omega arith) pin-of'.ensures.0 (omega (arith, i.invariant.long, pin-of'.ensures.1, p.0)) put'.ensures i.invariant)

pub returns : goal.returns
returns c =
    let a = c.args in
    net_all a.netlist.bytes.now a.n c.loop-j.j a.out.now c.loop-j.out (omega arith) c.loop-j.invariant
