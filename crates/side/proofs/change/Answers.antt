-- `side::change` meets its contract, by each way out. Assumes nothing.
use Rattle.std.specs.Prelude.{◌≡◌, List, ℕ, Ok, true, false}
use mathlib.Core.Path.{sym, ◌∙◌, ap, ap₂, subst}
use denote.Bor.{Bor}
use mir.Syntax.{w64}
use mir.ValLaws.{to_z-of_z}
use Rattle.side.specs.Sides.{side_of}
use Rattle.side.proofs.Changes.{free_tells}
use Rattle.std.proofs.lemmas.Result.{err_from_is_err_and}
use borrow.Author.Rules.{rules}
use Rattle.side.specs.Moves.{is_free, change_of, changed, changed_good}
use Rattle.side.proofs.change.Goals as goal

pub returns : goal.returns
unfolding changed changed_good
returns c =
    let g = c.in_ok-sided.ensures.good in
    let m = c.args.m in
    let f = subst (λ (b : Bor (List ℕ)). is_free b.now m ≡ true) g.0 (sym c.is_free.ensures ∙ c.if-not-is_free.false) in
    let e = to_z-of_z w64 c.change.result (record { sfits = c.change.type_inv }) ∙ c.change.ensures ∙ ap₂ (λ (b x : Bor (List ℕ)). change_of b.now (side_of x.now) m) g.0 g.1 in
    rw (g.2, f) (ap Ok e)

pub change-requires : goal.change-requires
change-requires c = (free_tells _ _ (sym c.is_free.ensures ∙ c.if-not-is_free.false)).0

pub returns-then-not-is_free : goal.returns-then-not-is_free
unfolding changed changed_good
returns-then-not-is_free c =
    let g = c.in_ok-sided.ensures.good in
    rw (g.2, subst (λ (b : Bor (List ℕ)). is_free b.now c.args.m ≡ false) g.0 (sym c.is_free.ensures ∙ c.if-not-is_free.true))

pub returns-in_err-sided : goal.returns-in_err-sided
unfolding changed
returns-in_err-sided c =
    let p = err_from_is_err_and c.from_residual.result c.from_residual.ensures.1 in
    rw (c.in_err-sided.ensures.why, p.1) (search rules)
