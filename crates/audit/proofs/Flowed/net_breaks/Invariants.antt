-- `audit::Flowed::net_breaks` meets its contract: the two sums are those of the net's pins before `j`, each at most `most_sent` for each of them. Assumes nothing.
use Prim.Native.Nat.{◌*◌, ◌≤◌}
use mathlib.Core.Path.{◌≡◌}
use Rattle.audit.specs.Rules.{most_sent, net_sent_to, net_taken_to}
use Rattle.audit.proofs.Flowed.net_breaks.Given as goal

abbrev pub invariant-loop-j : goal.invariant-loop-j
invariant-loop-j l =
    (l.sent ≡ net_sent_to l.self.netlist.bytes.now l.self.flow.now l.n l.j) × (l.taken ≡ net_taken_to l.self.netlist.bytes.now l.self.flow.now l.n l.j) × (l.sent ≤ most_sent * l.j) × (l.taken ≤ most_sent * l.j)
