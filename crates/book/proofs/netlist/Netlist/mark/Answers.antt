-- `book::Netlist::mark` meets its contract: no mark of a book that reads is above 2. Assumes nothing.
use Rattle.std.specs.Prelude.{◌≡◌, ℕ, ◌≤◌, List}
use mathlib.Core.Path.{◌∙◌, ap}
use denote.Bor.{Bor}
use Rattle.book.specs.Format.{mark}
use native.Mathlib.Omega.{arith}
use Rattle.book.proofs.Netlists.{sound_netlist}
use Rattle.book.proofs.netlist.Netlist.mark.Goals as goal

rest : (m : ℕ) → m ≤ 2 → (m ≡ 0 → ⊥) → (m ≡ 1 → ⊥) → 2 ≡ m
rest m l a b = omega arith

pub returns-else-mark-eq1 : goal.returns-else-mark-eq1
returns-else-mark-eq1 c =
    let a = c.args in
    let is = c.mark-mark.ensures.0 ∙ ap (λ (b : Bor (List ℕ)). mark b.now a.m) c.layout.ensures in
    rest (mark a.self.bytes.now a.m) ((sound_netlist a.self).mark_low a.m c.requires) (λ e. c.if-mark-eq0.false (is ∙ e)) (λ e. c.if-mark-eq1.false (is ∙ e))
