use native.Mathlib.Omega.{arith}
use Rattle.std.specs.Prelude.{◌≡◌, ℕ, true, false, Bool, refl}
use Rattle.std.proofs.lemmas.Iterator.{cases_from_all, YieldsList-from_range}
use borrow.Author.Rules.{rules}
use borrow.Author.Tests.{tests}
use Rattle.book.proofs.Firsts.{none_by}
use Rattle.side.specs.Given.{misplaced, separates}
use Rattle.side.specs.Sides.{side_of}
use Rattle.side.proofs.Sided.separates.Goals as goal

pub returns : goal.returns
unfolding separates
returns c =
    let a = c.args in
    let t : ℕ → Bool = misplaced a.self.netlist.bytes.now (side_of a.self.bits.now) in
    rw (← c.modules.ensures) (none_by t _ _
    (cases_from_all _ _ _ (λ (m : ℕ). t m ≡ false) (λ (m : ℕ). t m ≡ true) c.all.ensures.ran (YieldsList-from_range 0 _ c.modules.result refl (omega arith)) (λ x q k. search (rules, tests)) (λ x q k. search (rules, tests))))
