-- `book::Layout::bad_net` meets its contract: no net before `n` is bad, and `sum` is where the pins of net `n` begin. Assumes nothing.
use Rattle.std.specs.Prelude.{Some}
use mathlib.Core.Path.{◌≡◌, refl, sym, ◌∙◌, ap}
use native.Mathlib.Omega.{arith}
use borrow.Author.Tests.{eq-eqb, ne_eqb}
use native.Mathlib.Numerals.{add-one}
use Rattle.book.specs.First.{first, lowest}
use Rattle.book.specs.Format.{first_pin, nets, pins}
use Rattle.book.specs.Checks.{bad_net, check4}
use Rattle.book.proofs.Firsts.{lowest_more, lowest_found, lowest_ended}
use Rattle.book.proofs.layout.Layout.bad_net.Goals as goal

pub loop-n-init : goal.loop-n-init
unfolding lowest first first_pin
loop-n-init c = (refl, refl, omega arith)

pub returns-then-net_is_bad : goal.returns-then-net_is_bad
unfolding check4
returns-then-net_is_bad c =
    let i = c.loop-n in
    let s = c.args.self.bytes.now in
    rw (lowest_found (bad_net s) i.n (nets s) i.invariant.0 (sym c.net_is_bad.ensures ∙ c.if-net_is_bad.true) (omega arith))

pub loop-n-preserved : goal.loop-n-preserved
unfolding first_pin
loop-n-preserved c =
    let i = c.loop-n in (
      lowest_more _ i.n i.invariant.0 (sym c.net_is_bad.ensures ∙ c.if-net_is_bad.false),
      rw add-one (omega arith),
      omega arith,
    )

pub returns-then-sum-pins : goal.returns-then-sum-pins
unfolding check4
returns-then-sum-pins c =
    let i = c.loop-n in
    let s = c.args.self.bytes.now in
    let e : i.n ≡ nets s = omega arith in
    let h : first_pin s (nets s) ≡ pins s = ap (first_pin s) (sym e) ∙ sym i.invariant.1 ∙ c.if-sum-pins.true ∙ c.pins.ensures in
    rw (lowest_ended (bad_net s) i.n (nets s) i.invariant.0 e, eq-eqb _ _ h)

pub returns-else-sum-pins : goal.returns-else-sum-pins
unfolding check4
returns-else-sum-pins c =
    let i = c.loop-n in
    let s = c.args.self.bytes.now in
    let e : i.n ≡ nets s = omega arith in
    rw (lowest_ended (bad_net s) i.n (nets s) i.invariant.0 e, ne_eqb (first_pin s (nets s)) (pins s) (λ q. c.if-sum-pins.false (i.invariant.1 ∙ ap (first_pin s) e ∙ q ∙ sym c.pins.ensures)))
    (ap Some c.nets-count.ensures)
