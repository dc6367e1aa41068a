-- `view::list` meets its contract: over the last byte of the largest book there is a step only where more came in. Assumes nothing.
use Rattle.view.proofs.Large.{seen_prints}
use Rattle.view.proofs.list.Goals as goal

pub returns : goal.returns
returns c =
    let v = c.start-v.ensures in
    let m = c.moved.ensures in
    let l = rw (c.next_u16-past.ensures, m.0, m.1, v.0, v.1) at c.list.ensures in
    seen_prints c.args.input.now c.args.out.now c.list.result c.list.new.out l
