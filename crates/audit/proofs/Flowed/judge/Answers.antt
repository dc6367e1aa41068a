-- `audit::Flowed::judge` meets its contract, by each way out. Assumes nothing.
use Rattle.std.proofs.lemmas.Result.{err_from_is_err_and}
use borrow.Author.Rules.{rules}
use mathlib.Core.Path.{sym, ◌∙◌}
use Rattle.audit.proofs.Flowed.judge.Goals as goal

pub returns-in_err-value : goal.returns-in_err-value
returns-in_err-value c = let p = err_from_is_err_and c.from_residual.result c.from_residual.ensures.1 in rw (sym c.rules.ensures ∙ c.in_err-value.was, p.1) (search rules)

pub returns : goal.returns
returns c =
    rw (sym c.rules.ensures ∙ c.in_ok-value.was, sym c.price.ensures.0, sym c.agree.ensures ∙ c.if-not-agree.false)

pub returns-then-not-agree : goal.returns-then-not-agree
returns-then-not-agree c =
    rw (sym c.rules.ensures ∙ c.in_ok-value.was, sym c.price.ensures.0, sym c.agree.ensures ∙ c.if-not-agree.true)
