-- a step's number is as small as its contract says
use Rattle.std.specs.Prelude.{Option, Some}
use Prim.Native.Nat.{ℕ, ◌+◌, ◌<◌}
use native.Mathlib.Omega.{arith}
use mathlib.Core.Path.{◌≡◌, sym, ap, ◌∙◌}
use Rattle.book.specs.Format.{u16, u32}
use Rattle.book.specs.Steps.{number_in}
use Rattle.book.specs.declared.Cursor.{Cursor}
use Rattle.book.proofs.Strides.{goes, ends, does_go, does_end}
use Rattle.book.proofs.Cursor.next_u32.Goals as goal

small : (r : Option (ℕ × Cursor)) (n : ℕ) (d : Cursor) → r ≡ Some (n, d) → number_in r < 65536 → n < 65536
small r n d e l = rw e at l

pub returns-in_err-low : goal.returns-in_err-low
returns-in_err-low c =
    let a = c.args in
    let h = ends 2 u16 a.book.now a.self.at (sym c.next_u16.ensures.0 ∙ c.in_err-low.was) in
    rw c.from_residual.ensures (does_end 4 u32 a.book.now a.self.at (omega arith), omega arith)

pub returns-in_err-high : goal.returns-in_err-high
returns-in_err-high c =
    let a = c.args in
    let g = goes 2 u16 a.book.now a.self.at _ c.in_ok-low.c (sym c.next_u16.ensures.0 ∙ c.in_ok-low.was) in
    let h = ends 2 u16 a.book.now c.in_ok-low.c.at (sym c.next_u16-2.ensures.0 ∙ c.in_err-high.was) in
    rw c.from_residual-in_err-high.ensures (does_end 4 u32 a.book.now a.self.at (omega (arith, g.after)), omega arith)

pub returns : goal.returns
unfolding u32
returns c =
    let a = c.args in
    let low = c.in_ok-low in
    let high = c.in_ok-high in
    let g = goes 2 u16 a.book.now a.self.at low.low low.c (sym c.next_u16.ensures.0 ∙ low.was) in
    let h = goes 2 u16 a.book.now low.c.at high.high high.d (sym c.next_u16-2.ensures.0 ∙ high.was) in
    let e : high.high ≡ u16 a.book.now (a.self.at + 2) = h.is ∙ ap (u16 a.book.now) g.after in
    let k = small _ low.low low.c (low.was) c.next_u16.ensures.1 in
    let l = small _ high.high high.d (high.was) c.next_u16-2.ensures.1 in
    (does_go 4 u32 a.book.now a.self.at _ high.d (omega (arith, g.after, h.there)) (omega (arith, g.is, e)) (omega (arith, g.after, h.after)), omega (arith, k, l))
