-- `book::Netlist::new` meets its contract: a book that reads is sound. Assumes nothing.
use mathlib.Core.Path.{sym, ◌∙◌}
use Rattle.book.proofs.Sound.{sound}
use Rattle.book.proofs.netlist.Netlist.new.Goals as goal

pub invariant_of-result : goal.invariant_of-result
invariant_of-result c = record { sound = ∣ sound _ _ (sym c.read.ensures ∙ c.in_ok-read.was) ∣₁ }
