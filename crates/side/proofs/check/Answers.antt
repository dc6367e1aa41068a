-- `side::check` meets its contract, by each way out. Assumes nothing.
use Rattle.std.specs.Prelude.{◌≡◌, List, ℕ, true, false, Err}
use mathlib.Core.Path.{sym, ◌∙◌, ap, subst}
use denote.Bor.{Bor}
use Rattle.std.proofs.lemmas.Result.{err_from_is_err_and}
use borrow.Author.Rules.{rules}
use Rattle.side.specs.Given.{is_short, is_good}
use Rattle.side.proofs.Sides.{given_good, given_unread, given_short, given_bad}
use Rattle.side.proofs.check.Goals as goal

pub returns-clause-good : goal.returns-clause-good
returns-clause-good c =
    let a = c.args in
    let g = c.in_ok-sided.ensures.good in
    let k = c.in_ok-new.ensures.same in
    let e = g.0 ∙ k in
    let short = subst (λ (b : Bor (List ℕ)). is_short b.now a.side.now ≡ false) k g.2 in
    let good = subst (λ (b : Bor (List ℕ)). is_good b.now a.side.now ≡ true) e (subst (λ (b : Bor (List ℕ)). is_good c.in_ok-sided.sided.netlist.bytes.now b.now ≡ true) g.1 (sym c.if-not-is_good.ensures)) in
    (e, g.1, given_good _ _ (sym c.in_ok-new.ensures.reads) short good)

pub returns-in_err-new-clause-why : goal.returns-in_err-new-clause-why
returns-in_err-new-clause-why c =
    let p = err_from_is_err_and c.from_residual.result c.from_residual.ensures.1 in
    rw p.1 (given_unread _ _ _ (c.in_err-new.ensures.why ∙ search rules))

pub returns-in_err-sided-clause-why : goal.returns-in_err-sided-clause-why
returns-in_err-sided-clause-why c =
    let a = c.args in
    let p = err_from_is_err_and c.from_residual-in_err-sided.result c.from_residual-in_err-sided.ensures.1 in
    let e = c.in_err-sided.ensures.short in
    let short = subst (λ (b : Bor (List ℕ)). is_short b.now a.side.now ≡ true) c.in_ok-new.ensures.same e.1 in
    rw p.1 (given_short _ _ (sym c.in_ok-new.ensures.reads) short ∙ ap Err (sym e.0 ∙ search rules))

pub returns-then-not-is_good-clause-why : goal.returns-then-not-is_good-clause-why
returns-then-not-is_good-clause-why c =
    let a = c.args in
    let g = c.in_ok-sided.ensures.good in
    let k = c.in_ok-new.ensures.same in
    let short = subst (λ (b : Bor (List ℕ)). is_short b.now a.side.now ≡ false) k g.2 in
    let bad = subst (λ (b : Bor (List ℕ)). is_good b.now a.side.now ≡ false) (g.0 ∙ k) (subst (λ (b : Bor (List ℕ)). is_good c.in_ok-sided.sided.netlist.bytes.now b.now ≡ false) g.1 (sym c.if-not-is_good.ensures)) in
    given_bad _ _ (sym c.in_ok-new.ensures.reads) short bad
