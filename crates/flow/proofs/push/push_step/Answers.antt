-- `flow::push::push_step` meets its contract. Assumes nothing.
use mathlib.Core.Path.{ap, ◌∙◌}
use Prim.Native.Nat.{ℕ}
use native.Mathlib.Omega.{arith}
use borrow.Author.Rules.{rules}
use lib.IntN.{ℤ, pos, neg_ℤ}
use lib.ListN.{get_or}
use Rattle.line.proofs.Push.{more_sent, less_sent}
use Rattle.line.specs.Flow.{sent}
use Rattle.flow.specs.Search.{left, entered}
use Rattle.flow.proofs.PushLaws.{read_at, shifted_at, push_code, sums_code}
use Rattle.flow.proofs.Numbers.{plus_fits, minus_fits}
use Rattle.flow.proofs.push.push_step.Goals as goal

pub overflow_add-sums-2 : goal.overflow_add-sums-2
overflow_add-sums-2 c =
    let fl = c.args.flow.now in
    let pre = c.requires in
    let d = c.args.d in
    let a = c.left_pin-a in
    let b = c.entered_pin-b in
    let net = c.from-n.ensures ∙ ap (λ (k : ℕ). get_or c.args.nets.now k 0) a.ensures in
    let has_a = c.sent_by-3.ensures ∙ ap sent (shifted_at (λ (z : ℤ). z) fl d a.ensures (search rules) pre.amount (plus_fits _ d pre.small_a pre.amount)) in
    let has_b = c.sent_by-4.ensures ∙ ap sent (shifted_at neg_ℤ fl d b.ensures (search rules) pre.amount (minus_fits _ d pre.small_b pre.amount)) in
    record { fits = omega (arith, has_a, has_b, more_sent (get_or fl (left c.args.x) (pos 0)) d, less_sent (get_or fl (entered c.args.x) (pos 0)) d, pre.small_a.sent, pre.small_b.sent, pre.amount, pre.sum, ap (λ (k : ℕ). get_or c.args.sums.now k 0) net) }

pub returns : goal.returns
returns c =
    let fl = c.args.flow.now in
    let pre = c.requires in
    let d = c.args.d in
    let a = c.left_pin-a in
    let b = c.entered_pin-b in
    let net = c.from-n.ensures ∙ ap (λ (k : ℕ). get_or c.args.nets.now k 0) a.ensures in
    let more = shifted_at (λ (z : ℤ). z) fl d a.ensures (search rules) pre.amount (plus_fits _ d pre.small_a pre.amount) in
    let less = shifted_at neg_ℤ fl d b.ensures (search rules) pre.amount (minus_fits _ d pre.small_b pre.amount) in
    let had_a = c.sent_by.ensures ∙ ap sent (read_at fl a.ensures (search rules)) in
    let had_b = c.sent_by-2.ensures ∙ ap sent (read_at fl b.ensures (search rules)) in
    let has_a = c.sent_by-3.ensures ∙ ap sent more in
    let has_b = c.sent_by-4.ensures ∙ ap sent less in
    (push_code fl (left c.args.x) (entered c.args.x) d a.ensures b.ensures pre.apart more less, sums_code c.args.sums.now net (omega (arith, had_a, had_b, has_a, has_b, ap (λ (k : ℕ). get_or c.args.sums.now k 0) net)))
