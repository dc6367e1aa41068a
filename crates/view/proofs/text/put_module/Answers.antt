-- `view::text::put_module` meets its contract: a line where the module is on the side, and else nothing. Assumes nothing.
use mathlib.Core.Path.{sym, ◌∙◌}
use Rattle.side.specs.Sides.{side_of}
use Rattle.view.proofs.Lines.{line_feed, line_on, line_long}
use Rattle.view.proofs.Puts.{put_then}
use native.Mathlib.Omega.{arith}
use Rattle.view.proofs.text.put_module.Goals as goal

pub put_text-requires : goal.put_text-requires
put_text-requires c =
    let a = c.args in
    let u = c.put_decimal-end in
    omega (arith, c.requires.1, line_long (side_of a.side.now) a.m (sym c.inside.ensures ∙ c.if-inside.true), u.auto.out, u.ensures.after)

pub returns-then-inside : goal.returns-then-inside
returns-then-inside c =
    let a = c.args in
    let x = side_of a.side.now in
    let on = sym c.inside.ensures ∙ c.if-inside.true in
    let u = c.put_decimal-end.ensures in
    rw (line_on x a.m on, line_feed) (put_then (omega (arith, c.requires.1, u.after, line_long x a.m on)) u c.put_text.ensures)
