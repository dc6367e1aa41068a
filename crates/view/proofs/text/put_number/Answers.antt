-- `view::text::put_number` meets its contract: the word, then the number. Assumes nothing.
use lib.ListN.{length-append}
use Rattle.view.specs.Text.{decimal}
use Rattle.view.proofs.Puts.{put_then}
use native.Mathlib.Omega.{arith}
use Rattle.view.proofs.text.put_number.Goals as goal

pub returns : goal.returns
returns c =
    let a = c.args in
    let w = c.put_text-then in
    put_then (omega (arith, c.requires, w.ensures.after, length-append a.word.now (decimal a.n))) w.ensures c.put_decimal.ensures
