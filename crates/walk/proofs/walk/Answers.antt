-- `walk::walk` meets its contract: the reader refuses, or the rest. Assumes nothing.
use Rattle.std.specs.Prelude.{List, ℕ}
use denote.Bor.{Bor}
use Rattle.std.proofs.lemmas.Result.{err_from_is_err_and}
use Rattle.walk.specs.Answer.{left_by}
use Rattle.walk.specs.Call.{Comes, checked_sound}
use Rattle.walk.proofs.Whole.{read_good, read_refuses}
use mathlib.Core.Path.{refl, sym, subst}
use Rattle.walk.proofs.walk.Goals as goal

pub returns : goal.returns
returns c =
    let a = c.args in
    let e = c.in_ok-netlist.ensures in
    read_good a.book.now a.gate a.side.now a.rows.now _ (sym e.reads)
    (subst (λ (b : Bor (List ℕ)). Comes (checked_sound b.now a.gate a.side.now a.rows.now) b.now a.gate a.side.now a.rows.now (left_by c.walk_sound.result c.walk_sound.new.side c.walk_sound.new.rows)) e.same c.walk_sound.ensures)

pub returns-in_err-netlist : goal.returns-in_err-netlist
returns-in_err-netlist c =
    let a = c.args in
    let p = err_from_is_err_and c.from_residual.result c.from_residual.ensures.1 in
    rw (p.1, p.2) (read_refuses a.book.now a.gate a.side.now a.rows.now _ _ c.in_err-netlist.ensures.why refl)
