use native.Mathlib.Omega.{arith}
use Rattle.std.specs.Prelude.{◌≡◌, ℕ, true, false, eqb, Bool, refl}
use Rattle.std.proofs.lemmas.Iterator.{cases_from_all, YieldsList-from_range}
use borrow.Author.Rules.{rules}
use borrow.Author.Tests.{tests}
use Rattle.book.specs.Format.{mark}
use Rattle.book.specs.Checks.{lacks}
use Rattle.book.proofs.Firsts.{none_by}
use Rattle.book.proofs.layout.Layout.lacks.Goals as goal

pub returns : goal.returns
unfolding lacks
returns c =
    let s = c.args.self.bytes.now in
    let t : ℕ → Bool = λ (m : ℕ). eqb (mark s m) c.args.wanted in
    rw (← c.modules.ensures) (none_by t _ _
    (cases_from_all _ _ _ (λ (m : ℕ). t m ≡ false) (λ (m : ℕ). t m ≡ true) c.all.ensures.ran (YieldsList-from_range 0 _ c.modules.result refl (omega arith)) (λ x q k. search (rules, tests)) (λ x q k. search (rules, tests))))
