-- `audit::Flowed::net_breaks` meets its contract: the two sums are those of the net's pins before `j`, each at most `most_sent` for each of them. Assumes nothing.
use Prim.Native.Nat.{ℕ, ◌+◌, ◌<◌}
use mathlib.Core.Path.{◌≡◌, ap, ap₂, sym, ◌∙◌}
use native.Mathlib.Omega.{arith}
use lib.ListN.{length}
use Rattle.book.specs.Format.{nets, pin_count, first_pin}
use Rattle.book.proofs.CardLaws.{pin_before}
use Rattle.audit.specs.Rules.{sent_at, taken_at, net_sent_to, net_taken_to, bad_net_flow}
use Rattle.audit.proofs.Totals.{sum_none, sum_next}
use Rattle.audit.proofs.Flows.{sound_netlist}
use Rattle.audit.proofs.Flowed.net_breaks.Goals as goal
use Rattle.audit.proofs.Flowed.net_breaks.Goals.{In-loop-j}

pub loop-j-init : goal.loop-j-init
loop-j-init c = (sum_none _, sum_none _, omega arith, omega arith)

-- pin j of the net has a number
here : (c : In-loop-j) → c.args.first + c.loop-j.j < length c.args.self.flow.now
here c =
    let s = c.args.self.netlist.bytes.now in
    let p = c.requires in
    omega (arith, pin_before s c.args.n (nets s) c.loop-j.j p.under (omega arith), (sound_netlist c.args.self.netlist).pins_all)

pub overflow_add-first : goal.overflow_add-first
overflow_add-first c = omega (arith, here (goal.at.overflow_add-first c).In-loop-j)

pub sent_at-sent-requires : goal.sent_at-sent-requires
sent_at-sent-requires c = omega (arith, here (goal.at.sent_at-sent-requires c).In-loop-j)

pub overflow_add-first-in-loop-j : goal.overflow_add-first-in-loop-j
overflow_add-first-in-loop-j c = omega (arith, here (goal.at.overflow_add-first-in-loop-j c).In-loop-j)

pub taken_at-taken-requires : goal.taken_at-taken-requires
taken_at-taken-requires c = omega (arith, here (goal.at.taken_at-taken-requires c).In-loop-j)

pub loop-j-preserved : goal.loop-j-preserved
loop-j-preserved c =
    let a = c.args in
    let i = c.loop-j in
    let at : a.first + i.j ≡ first_pin a.self.netlist.bytes.now a.n + i.j = ap (λ (k : ℕ). k + i.j) c.requires.begins in (
      ap₂ (λ (x y : ℕ). x + y) i.invariant.0 (c.sent_at-sent.ensures.0 ∙ ap (sent_at a.self.flow.now) at) ∙ sym (sum_next _ i.j),
      ap₂ (λ (x y : ℕ). x + y) i.invariant.1 (c.taken_at-taken.ensures.0 ∙ ap (taken_at a.self.flow.now) at) ∙ sym (sum_next _ i.j),
      omega arith,
      omega arith,
    )

pub returns : goal.returns
unfolding bad_net_flow
returns c =
    let a = c.args in
    let i = c.loop-j in
    let e : i.j ≡ pin_count a.self.netlist.bytes.now a.n = omega arith in
    rw (i.invariant.0 ∙ ap (net_sent_to a.self.netlist.bytes.now a.self.flow.now a.n) e, i.invariant.1 ∙ ap (net_taken_to a.self.netlist.bytes.now a.self.flow.now a.n) e, c.weight.ensures.0)
