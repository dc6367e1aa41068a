use Rattle.std.proofs.Common.{◌≡◌, take}
use Rattle.std.specs.Prelude.{fold}
use Rattle.trial.specs.Cards.{book_of, put_over}
use Rattle.trial.proofs.card.Card.edited.Given as goal

abbrev pub invariant-loop-x : goal.invariant-loop-x
invariant-loop-x l =
    l.book.items ≡ fold put_over (book_of l.fn.self.modules.now l.fn.self.nets.now) (take l.x-index l.puts)
