use Rattle.std.specs.Prelude.{◌≡◌, ℕ, Bool, true, false}
use Rattle.std.proofs.lemmas.Iterator.{first_from_Range}
use borrow.Author.Rules.{rules}
use borrow.Author.Tests.{tests}
use Rattle.book.proofs.Firsts.{lowest_by}
use Rattle.audit.specs.Tallies.{uneven}
use Rattle.audit.proofs.uneven_module.Goals as goal

pub returns : goal.returns
returns c =
    let a = c.args in
    let t : ℕ → Bool = uneven a.netlist.bytes.now a.sends.now a.takes.now in
    rw (← c.modules.ensures) (lowest_by t _ _
    (first_from_Range _ _ _ _ (λ (m : ℕ). t m ≡ true) (λ (m : ℕ). t m ≡ false) c.find.ensures.ran (λ x q k. search (rules, tests)) (λ x q k. search (rules, tests))))
