use Rattle.std.specs.Prelude.{◌≡◌, ℕ, true, false}
use Rattle.std.proofs.lemmas.Iterator.{first_from_Range}
use borrow.Author.Rules.{rules}
use borrow.Author.Tests.{tests}
use Rattle.book.specs.Checks.{bad_module, check3}
use Rattle.book.proofs.Firsts.{lowest_by}
use Rattle.book.proofs.layout.Layout.bad_module.Goals as goal

pub returns : goal.returns
unfolding check3
returns c =
    let s = c.args.self.bytes.now in
    rw (← c.modules.ensures) (lowest_by (bad_module s) _ _
    (first_from_Range _ _ _ _ (λ (m : ℕ). bad_module s m ≡ true) (λ (m : ℕ). bad_module s m ≡ false) c.find.ensures.ran (λ x q k. search (rules, tests)) (λ x q k. search (rules, tests))))
