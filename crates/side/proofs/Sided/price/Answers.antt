-- `side::Sided::price` meets its contract: `sum` is the price of the nets before `n`, and `first` the place of the first pin of net `n`. Assumes nothing.
use Prim.Native.Nat.{ℕ, ◌+◌, ◌<◌}
use mathlib.Core.Path.{◌≡◌, refl, sym, ap, ap₂, ◌∙◌}
use lib.ListN.{take}
use native.Mathlib.Omega.{arith}
use Rattle.line.specs.Card.{price}
use Rattle.book.specs.Format.{nets, first_pin}
use Rattle.book.specs.Cards.{nets_of}
use Rattle.book.proofs.CardLaws.{price_start, price_next, price_all, first_pin-suc}
use Rattle.side.specs.Sides.{side_of}
use Rattle.side.proofs.Places.{next_within}
use Rattle.side.proofs.Sides.{sound_netlist}
use Rattle.side.proofs.Sided.price.Goals as goal

pub loop-n-init : goal.loop-n-init
unfolding first_pin
loop-n-init c =
    let a = c.args in
    (sym (price_start a.self.netlist.bytes.now (side_of a.self.bits.now)), omega arith, refl)

pub overflow_add-first : goal.overflow_add-first
overflow_add-first c =
    let i = c.loop-n in
    omega (arith, (sound_netlist c.args.self.netlist).few_pins, c.pin_count-first.ensures.0, next_within c.args.self.netlist.bytes.now (sound_netlist c.args.self.netlist) i.n (omega arith))

pub loop-n-preserved : goal.loop-n-preserved
loop-n-preserved c =
    let i = c.loop-n in
    let a = c.args in
    let l : i.n < nets a.self.netlist.bytes.now = omega arith in (
      ap₂ (λ (p q : ℕ). p + q) i.invariant.0 c.cost-sum.ensures.0 ∙ sym (price_next a.self.netlist.bytes.now (side_of a.self.bits.now) i.n l),
      omega arith,
      ap₂ (λ (p q : ℕ). p + q) i.invariant.2 c.pin_count-first.ensures.0 ∙ sym (first_pin-suc a.self.netlist.bytes.now i.n),
    )

pub returns : goal.returns
returns c =
    let i = c.loop-n in
    let a = c.args in
    let x = side_of a.self.bits.now in
    let e : i.n ≡ nets a.self.netlist.bytes.now = omega arith in
    (i.invariant.0 ∙ ap (λ (k : ℕ). price (take k (nets_of a.self.netlist.bytes.now)) x) e ∙ price_all a.self.netlist.bytes.now x, omega (arith, (sound_netlist a.self.netlist).few_nets))
