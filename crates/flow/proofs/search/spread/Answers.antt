-- `flow::search::spread` meets its contract: the pins from `lo` up to `i` have been looked at (`Spread`). Assumes nothing.
use Rattle.flow.proofs.SpreadLaws.{spread_skip, spread_mark, ranked, marks}
use Rattle.flow.proofs.Numbers.{read_sends, read_from}
use Rattle.flow.proofs.Sets.{in_of, clash}
use lib.IntN.{pos}
use mir.Syntax.{w32}
use mir.Val.{SFits}
use lib.ListN.{get_or}
use mathlib.Core.Path.{sym, ◌∙◌}
use borrow.Author.Rules.{rules}
use native.Mathlib.Omega.{arith}
use Rattle.flow.proofs.search.spread.Goals as goal
use Rattle.flow.proofs.search.spread.Goals.{then-how-m-eq0+then-picks, else-how-m-eq0, else-how-m-eq0-via-then-how-m-eq0+else-picks, else-how-m-eq0-via-else-how-m-eq0}

pub bounds-queue-tail : goal.bounds-queue-tail
bounds-queue-tail c = (marks c.requires.6 c.loop-i.invariant.grown c.from-m.result (ranked c.requires.6 c.loop-i.invariant.grown c.loop-i.i c.from-m.result (omega arith) c.from-m.ensures) c.if-how-m-eq0.true).tail

pub loop-i-preserved : goal.loop-i-preserved
loop-i-preserved c =
    let scan = c.args.scan in
    let z = get_or c.args.flow.now c.loop-i.i (pos 0) in
    let m = c.from-m in
    let k = ranked c.requires.6 c.loop-i.invariant.grown c.loop-i.i m.result (omega arith) m.ensures in
    elim c.if-how-m-eq0.branch [
      | then-how-m-eq0+then-picks w ↦
          let fits : SFits w32 z = search rules in
          let f = marks c.requires.6 c.loop-i.invariant.grown m.result k w.if-how-m-eq0.true in
          rw (w.queue-is, w.how-is, w.tail-is) (spread_mark _ _ _ _ _ _ _ c.loop-i.invariant (omega arith) (sym (w.if-picks.ensures ∙ read_sends scan.all scan.back z fits.sfits))
          m.result m.ensures w.if-how-m-eq0.true f.place f.tail (w.way_from-from.ensures.0 ∙ read_from scan.back z scan.from scan.undo fits.sfits) (omega (arith, w.way_from-from.ensures.1)) w.pack.ensures (sym m.ensures))
      | else-how-m-eq0 w ↦ rw (w.queue-is, w.how-is, w.tail-is) (spread_skip _ _ _ _ _ _ _ c.loop-i.invariant
          (elim w.else-how-m-eq0.branch [
            | else-how-m-eq0-via-then-how-m-eq0+else-picks v ↦ let fits : SFits w32 z = search rules in λ g. clash g (sym (v.if-picks.ensures ∙ read_sends scan.all scan.back z fits.sfits))
            | else-how-m-eq0-via-else-how-m-eq0 v ↦ λ g. in_of c.loop-i.how m.ensures v.if-how-m-eq0.false
          ]))
    ]
