-- `audit::Flowed::value` meets its contract: the two sums are those of the meter modules' pins before `p`, each at most `most_sent` for each of them. Assumes nothing.
use Prim.Native.Nat.{◌*◌, ◌≤◌}
use mathlib.Core.Path.{◌≡◌}
use Rattle.line.specs.Flow.{meters}
use Rattle.book.specs.Cards.{card_of}
use Rattle.audit.specs.Rules.{most_sent, sent_to, taken_to}
use Rattle.audit.proofs.Flowed.value.Given as goal

abbrev pub invariant-loop-p : goal.invariant-loop-p
invariant-loop-p l =
    (l.sent ≡ sent_to l.self.netlist.bytes.now l.self.flow.now (meters (card_of l.self.netlist.bytes.now)) l.p) × (l.taken ≡ taken_to l.self.netlist.bytes.now l.self.flow.now (meters (card_of l.self.netlist.bytes.now)) l.p) × (l.sent ≤ most_sent * l.p) × (l.taken ≤ most_sent * l.p)
