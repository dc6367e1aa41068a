-- `audit::Flowed::tally` meets its contract: the two lists are the tallies of the pins before `p`. Assumes nothing.
use mathlib.Core.Path.{◌≡◌}
use lib.ListN.{length}
use Rattle.line.specs.Flow.{sent, taken}
use Rattle.audit.specs.Tallies.{TallyTo}
use Rattle.audit.proofs.Flowed.tally.Given as goal

abbrev pub invariant-loop-p : goal.invariant-loop-p
invariant-loop-p l =
    (length l.sends ≡ length l.initial.sends) × (length l.takes ≡ length l.initial.takes) × TallyTo l.self.netlist.bytes.now l.self.flow.now sent l.p l.sends × TallyTo l.self.netlist.bytes.now l.self.flow.now taken l.p l.takes
