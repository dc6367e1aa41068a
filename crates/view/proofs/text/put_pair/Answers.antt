-- `view::text::put_pair` meets its contract: a word and a number, twice, and a line feed. Assumes nothing.
use Rattle.view.proofs.Lines.{line_feed, pair_long}
use Rattle.view.proofs.Puts.{put_then}
use native.Mathlib.Omega.{arith}
use Rattle.view.proofs.text.put_pair.Goals as goal

pub put_text-requires : goal.put_text-requires
put_text-requires c =
    let a = c.args in
    let u = c.put_number-then in
    let v = c.put_number-end in
    omega (arith, c.requires, pair_long a.first.now a.n a.second.now a.k, u.auto.out, v.auto.out, u.ensures.after, v.ensures.after)

pub returns : goal.returns
returns c =
    let a = c.args in
    let p = c.requires in
    let u = c.put_number-then.ensures in
    let v = c.put_number-end.ensures in
    let l = pair_long a.first.now a.n a.second.now a.k in
    rw line_feed (put_then (omega (arith, p, l, u.after, v.after)) (put_then (omega (arith, p, l, u.after)) u v) c.put_text.ensures)
