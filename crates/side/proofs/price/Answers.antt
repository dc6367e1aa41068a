-- `side::price` meets its contract, by each way out. Assumes nothing.
use Rattle.std.specs.Prelude.{List, ℕ, Ok}
use mathlib.Core.Path.{◌∙◌, ap, ap₂}
use denote.Bor.{Bor}
use Rattle.line.specs.Card.{price}
use Rattle.book.specs.Cards.{nets_of}
use Rattle.side.specs.Sides.{side_of}
use Rattle.std.proofs.lemmas.Result.{err_from_is_err_and}
use borrow.Author.Rules.{rules}
use Rattle.side.specs.Prices.{priced}
use Rattle.side.proofs.price.Goals as goal

pub returns : goal.returns
unfolding priced
returns c =
    let g = c.in_ok-sided.ensures.good in
    let e = c.price.ensures.0 ∙ ap₂ (λ (b x : Bor (List ℕ)). price (nets_of b.now) (side_of x.now)) g.0 g.1 in
    rw g.2 (ap Ok e)

pub returns-in_err-sided : goal.returns-in_err-sided
unfolding priced
returns-in_err-sided c =
    let p = err_from_is_err_and c.from_residual.result c.from_residual.ensures.1 in
    rw (c.in_err-sided.ensures.why, p.1) (search rules)
