use borrow.Author.Rules.{rules}
use Rattle.book.specs.Format.{field}
use Rattle.book.proofs.layout.Layout.field.Goals as goal

pub returns : goal.returns
unfolding field
returns c = (rw (c.u16_at.ensures.0, c.u32_at.ensures.0), search rules)
