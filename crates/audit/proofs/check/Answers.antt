-- `audit::check` meets its contract, by each way out. Assumes nothing.
use Rattle.std.specs.Prelude.{List, ℕ}
use mathlib.Core.Path.{sym, ◌∙◌, ap}
use denote.Bor.{Bor}
use Rattle.std.proofs.lemmas.Result.{err_from_is_err_and}
use borrow.Author.Rules.{rules}
use Rattle.book.proofs.Netlists.{reads_as}
use Rattle.audit.specs.Checker.{checked_sound, checked_of}
use Rattle.audit.proofs.check.Goals as goal

pub returns-in_err-new : goal.returns-in_err-new
unfolding checked_of
returns-in_err-new c =
    let p = err_from_is_err_and c.from_residual.result c.from_residual.ensures.1 in
    rw (c.in_err-new.ensures.why, p.1) (search rules)

pub returns : goal.returns
unfolding checked_of
returns c =
    let a = c.args in
    let r = reads_as _ (sym c.in_ok-new.ensures.reads) in
    rw r.1 (c.check_lent.ensures ∙ ap (λ (b : Bor (List ℕ)). checked_sound b.now a.side.now a.flow.now a.price) c.in_ok-new.ensures.same)
