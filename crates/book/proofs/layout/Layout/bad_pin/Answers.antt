-- `book::Layout::bad_pin` meets its contract: no net before `n` has a bad pin, none of net `n` before `j` is bad, and `p` is the index of pin `j`
-- of net `n`. Assumes nothing.
use Rattle.std.specs.Prelude.{Some}
use Prim.Native.Nat.{◌<◌}
use mathlib.Core.Path.{◌≡◌, refl, sym, ◌∙◌, ap}
use native.Mathlib.Omega.{arith}
use native.Mathlib.Numerals.{add-one}
use Rattle.book.specs.First.{first, lowest}
use Rattle.book.specs.Format.{first_pin, nets, pins, pin_count}
use Rattle.book.specs.Checks.{bad_pin_of, bad_pins, check5}
use Rattle.book.proofs.Firsts.{lowest_more, lowest_found, lowest_ended, first_more, first_found}
use Rattle.book.proofs.CardLaws.{pin_before}
use Rattle.book.proofs.layout.Layout.bad_pin.Goals as goal
use Rattle.book.proofs.layout.Layout.bad_pin.Goals.{After-pin_is_bad, In-loop-j}

pub loop-n-init : goal.loop-n-init
unfolding first first_pin
loop-n-init c = (refl, refl)

pub loop-j-init : goal.loop-j-init
unfolding first lowest
loop-j-init c = (omega arith, refl)

-- pin j of net n is within the pin body
within : (c : In-loop-j) → c.loop-j.p < pins c.args.self.bytes.now
within c =
    let s = c.args.self.bytes.now in
    omega (arith, pin_before s c.loop-n.n (nets s) c.loop-j.j (omega arith) (omega arith))

pub pin_is_bad-requires : goal.pin_is_bad-requires
pin_is_bad-requires c = (within (goal.at.pin_is_bad-requires c).In-loop-j, omega arith)

-- the test is that of pin j of net n
tested : (c : After-pin_is_bad) → bad_pin_of c.args.self.bytes.now c.loop-n.n c.loop-j.j ≡ c.pin_is_bad.result
tested c = rw (← c.loop-j.invariant.0) (sym c.pin_is_bad.ensures)

pub overflow_add-p : goal.overflow_add-p
overflow_add-p c = omega (arith, within (goal.at.overflow_add-p c).In-loop-j)

pub loop-j-preserved : goal.loop-j-preserved
loop-j-preserved c =
    let i = c.loop-j in
    (omega arith, lowest_more _ i.j i.invariant.1 (tested (goal.at.loop-j-preserved c).After-pin_is_bad ∙ c.if-pin_is_bad.false))

pub loop-n-preserved : goal.loop-n-preserved
unfolding first_pin
loop-n-preserved c =
    let i = c.loop-j in
    let o = c.loop-n in
    let s = c.args.self.bytes.now in
    let e : i.j ≡ pin_count s o.n = omega arith in (
      rw add-one (omega arith),
      first_more (bad_pins s) o.n o.invariant.1 (rw (lowest_ended (bad_pin_of s o.n) i.j (pin_count s o.n) i.invariant.1 e)),
    )

pub returns-after-loop-n : goal.returns-after-loop-n
unfolding check5
returns-after-loop-n c =
    let o = c.loop-n in
    let e : o.n ≡ nets c.args.self.bytes.now = omega arith in
    rw (← e) (sym o.invariant.1)

pub returns-then-pin_is_bad : goal.returns-then-pin_is_bad
unfolding check5
returns-then-pin_is_bad c =
    let i = c.loop-j in
    let o = c.loop-n in
    let s = c.args.self.bytes.now in
    let l : i.j < pin_count s o.n = omega arith in
    let f = lowest_found (bad_pin_of s o.n) i.j (pin_count s o.n) i.invariant.1 (tested (goal.at.returns-then-pin_is_bad c).After-pin_is_bad ∙ c.if-pin_is_bad.true) l in
    sym (first_found (bad_pins s) o.n (nets s) i.p o.invariant.1 (rw f (ap Some (sym i.invariant.0))) (omega arith))
