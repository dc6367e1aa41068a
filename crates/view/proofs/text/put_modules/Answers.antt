-- `view::text::put_modules` meets its contract: the lines of the modules below `m` stand. Assumes nothing.
use Prim.Native.Nat.{◌+◌}
use Rattle.side.specs.Sides.{side_of}
use Rattle.view.specs.Text.{module_lines}
use Rattle.view.proofs.Lines.{lines_next, lines_long, lines_grow}
use Rattle.view.proofs.Puts.{put_then, put_none, put_long}
use native.Mathlib.Omega.{arith}
use Rattle.view.proofs.text.put_modules.Goals as goal

pub loop-m-init : goal.loop-m-init
unfolding module_lines
loop-m-init c = (put_none c.args.at c.args.out.now)

pub put_module-next-requires : goal.put_module-next-requires
put_module-next-requires c =
    let a = c.args in
    let p = c.requires in
    let l = c.loop-m in
    let x = side_of a.side.now in
    let long = lines_long x l.m in
    let grow = lines_grow x (l.m + 1) a.count (omega arith) in
    (omega (arith, p.0), omega (arith, p.1, l.invariant.after, long, grow, put_long (omega (arith, p.1, long, grow)) l.invariant))

pub loop-m-preserved : goal.loop-m-preserved
loop-m-preserved c =
    let a = c.args in
    let l = c.loop-m in
    let x = side_of a.side.now in
    let long = lines_long x l.m in
    let grow = lines_grow x (l.m + 1) a.count (omega arith) in
    (rw (lines_next x l.m) (put_then (omega (arith, c.requires.1, l.invariant.after, long, grow)) l.invariant c.put_module-next.ensures))
