-- `book::read` meets its contract, by each way out. Assumes nothing.
use Rattle.std.specs.Prelude.{◌≡◌, true, false}
use mathlib.Core.Path.{sym, ◌∙◌}
use Rattle.book.specs.Format.{laid}
use Rattle.book.specs.Checks.{read_of}
use Rattle.book.proofs.read.Goals as goal

pub returns-then-not-is_laid : goal.returns-then-not-is_laid
unfolding read_of
returns-then-not-is_laid c =
    let e : laid c.args.book.now ≡ false = sym c.is_laid.ensures ∙ c.if-not-is_laid.true in
    rw e

pub returns : goal.returns
unfolding read_of
returns c =
    let e : laid c.args.book.now ≡ true = sym c.is_laid.ensures ∙ c.if-not-is_laid.false in
    rw e c.read.ensures
