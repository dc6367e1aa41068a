-- `audit::check_lent` meets its contract, by each way out. Assumes nothing.
use Rattle.std.specs.Prelude.{◌≡◌, List, ℕ, ℤ, true, false, Err}
use mathlib.Core.Path.{sym, ◌∙◌, ap, ap₂, subst}
use denote.Bor.{Bor}
use Rattle.std.proofs.lemmas.Result.{err_from_is_err_and}
use borrow.Author.Rules.{rules}
use Rattle.line.specs.Card.{price}
use Rattle.book.specs.Cards.{nets_of}
use Rattle.side.specs.Sides.{side_of}
use Rattle.side.specs.Given.{is_good}
use Rattle.audit.specs.Rules.{ruled_of}
use Rattle.audit.specs.Checker.{checked_good, judged}
use Rattle.audit.proofs.Flows.{short_flow, short_side, bad_side, both_good}
use Rattle.audit.proofs.check_lent.Goals as goal

pub returns-in_err-flowed : goal.returns-in_err-flowed
returns-in_err-flowed c =
    let p = err_from_is_err_and c.from_residual.result c.from_residual.ensures.1 in
    let e = c.in_err-flowed.ensures.short in
    rw p.1 (ap Err (search rules ∙ e.0) ∙ short_flow _ _ _ _ e.1)

pub returns-in_err-sided : goal.returns-in_err-sided
returns-in_err-sided c =
    let p = err_from_is_err_and c.from_residual-in_err-sided.result c.from_residual-in_err-sided.ensures.1 in
    let e = c.in_err-sided.ensures.short in
    rw p.1 (ap Err (search rules ∙ e.0) ∙ short_side _ _ _ _ c.in_ok-flowed.ensures.good.2 e.1)

pub returns-then-not-is_good : goal.returns-then-not-is_good
returns-then-not-is_good c =
    let g = c.in_ok-sided.ensures.good in
    let n = c.args.netlist.bytes.now in
    let bad = subst (λ (b : Bor (List ℕ)). is_good b.now c.args.side.now ≡ false) g.0 (subst (λ (b : Bor (List ℕ)). is_good c.in_ok-sided.sided.netlist.bytes.now b.now ≡ false) g.1 (sym c.is_good.ensures ∙ c.if-not-is_good.true)) in
    bad_side _ _ _ _ c.in_ok-flowed.ensures.good.2 g.2 bad

pub returns : goal.returns
unfolding checked_good
returns c =
    let f = c.in_ok-flowed.ensures.good in
    let g = c.in_ok-sided.ensures.good in
    let good = subst (λ (b : Bor (List ℕ)). is_good b.now c.args.side.now ≡ true) g.0 (subst (λ (b : Bor (List ℕ)). is_good c.in_ok-sided.sided.netlist.bytes.now b.now ≡ true) g.1 (sym c.is_good.ensures ∙ c.if-not-is_good.false)) in
    let e = ap₂ (λ (b x : Bor (List ℕ)). price (nets_of b.now) (side_of x.now)) g.0 g.1 in
    let r = ap₂ (λ (b : Bor (List ℕ)) (x : Bor (List ℤ)). ruled_of b.now x.now) f.0 f.1 in
    c.judge.ensures ∙ ap₂ (λ q p. judged q p c.args.claim) r e ∙ both_good _ _ _ _ f.2 g.2 good
