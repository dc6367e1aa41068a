use native.Mathlib.Omega.{arith}
use mathlib.Core.Path.{sym, ◌∙◌}
use Rattle.book.specs.Format.{u32}
use Rattle.book.proofs.Strides.{goes, ends}
use Rattle.book.proofs.u32_at.Goals as goal

pub returns-in-Some : goal.returns-in-Some
returns-in-Some c =
    let a = c.args in
    let g = goes 4 u32 a.book.now a.i c.in-Some.n _ (sym c.next_u32.ensures.0 ∙ c.in-Some.is) in
    (g.is, rw c.in-Some.is at c.next_u32.ensures.1)

pub returns-in-None : goal.returns-in-None
returns-in-None c =
    let a = c.args in
    let h = ends 4 u32 a.book.now a.i (sym c.next_u32.ensures.0 ∙ c.in-None.is) in
    absurd (omega arith)
