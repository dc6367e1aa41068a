-- `audit::Flowed::value` meets its contract: the two sums are those of the meter modules' pins before `p`, each at most `most_sent` for each of them. Assumes nothing.
use Prim.Native.Nat.{ℕ, ◌+◌}
use mathlib.Core.Path.{◌≡◌, ap, ap₂, sym, ◌∙◌}
use mathlib.Core.Bool.{Bool, cond}
use native.Mathlib.Omega.{arith}
use lib.Dec.{eqb}
use Rattle.line.specs.Flow.{meters}
use Rattle.book.specs.Format.{pins, mark, pin}
use Rattle.book.specs.Cards.{card_of}
use Rattle.book.proofs.CardLaws.{pin_under}
use Rattle.audit.specs.Rules.{sent_to, taken_to, value_sent, value_taken}
use Rattle.audit.proofs.Totals.{sum_none, sum_next}
use Rattle.audit.proofs.Flows.{sound_netlist}
use Rattle.audit.proofs.Flowed.value.Goals as goal
use Rattle.audit.proofs.Flowed.value.Goals.{After-loop-p}

pub loop-p-init : goal.loop-p-init
loop-p-init c = (sum_none _, sum_none _, omega arith, omega arith)

pub mark-requires : goal.mark-requires
mark-requires c =
    rw c.pin.ensures.0 (pin_under _ (sound_netlist c.args.self.netlist) c.loop-p.p (omega arith))

pub loop-p-preserved : goal.loop-p-preserved
loop-p-preserved c =
    let s = c.args.self.netlist.bytes.now in
    let i = c.loop-p in
    let k : c.is_meter-on.result ≡ eqb (mark s (pin s i.p)) 1 = c.is_meter-on.ensures ∙ ap (λ (n : ℕ). eqb n 1) (c.mark.ensures ∙ ap (mark s) c.pin.ensures.0) in
    let x = c.if_on-sent.ensures.0 ∙ ap₂ (λ (t : Bool) (v : ℕ). cond t v 0) k c.sent_at.ensures.0 in
    let y = c.if_on-taken.ensures.0 ∙ ap₂ (λ (t : Bool) (v : ℕ). cond t v 0) k c.taken_at.ensures.0 in (
      ap₂ (λ (a b : ℕ). a + b) i.invariant.0 x ∙ sym (sum_next _ i.p),
      ap₂ (λ (a b : ℕ). a + b) i.invariant.1 y ∙ sym (sum_next _ i.p),
      omega arith,
      omega arith,
    )

-- after the last pin the two sums are whole
whole : (c : After-loop-p) →
    let s = c.args.self.netlist.bytes.now in
    let xs = c.args.self.flow.now in
    (c.loop-p.sent ≡ value_sent s xs) × (c.loop-p.taken ≡ value_taken s xs)
whole c =
    let s = c.args.self.netlist.bytes.now in
    let xs = c.args.self.flow.now in
    let e : c.loop-p.p ≡ pins s = omega arith in
    (c.loop-p.invariant.0 ∙ ap (sent_to s xs (meters (card_of s))) e, c.loop-p.invariant.1 ∙ ap (taken_to s xs (meters (card_of s))) e)

pub overflow_sub-result : goal.overflow_sub-result
overflow_sub-result c = omega (arith, (whole (goal.at.overflow_sub-result c).After-loop-p).0, (whole (goal.at.overflow_sub-result c).After-loop-p).1, c.requires)

pub returns : goal.returns
returns c = omega (arith, (whole (goal.at.returns c).After-loop-p).0, (whole (goal.at.returns c).After-loop-p).1, c.requires)
