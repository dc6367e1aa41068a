-- `side::Sided::change` meets its contract. The loop's invariant: over the nets before `n`, the price after the move with what is lost is the price before with
-- what is gained. Assumes nothing.
use Prim.Native.Nat.{ℕ, ◌+◌, ◌<◌}
use mathlib.Core.Path.{◌≡◌, refl, sym, ap, ap₂, ◌∙◌}
use mathlib.Core.Bool.{Bool, not, cond, ◌&&◌}
use lib.ListN.{take}
use mir.Syntax.{w64}
use mir.ValLaws.{to_z-of_z}
use Rattle.line.specs.Card.{Side, crosses, price}
use Rattle.book.specs.Format.{nets, weight, first_pin}
use Rattle.book.specs.Cards.{net_of, nets_of}
use Rattle.book.proofs.CardLaws.{price_start, price_next, price_all, first_pin-suc}
use Rattle.side.specs.declared.Apart.{Apart}
use Rattle.side.specs.Sides.{side_of}
use Rattle.side.specs.Moves.{flipped, crosses_with}
use Rattle.side.proofs.Places.{next_within}
use Rattle.side.proofs.Moves.{stays, moves, net_turns, differences}
use native.Mathlib.Omega.{arith}
use Rattle.side.proofs.Sides.{sound_netlist}
use Rattle.side.proofs.Sided.change.Goals as goal

pub loop-n-init : goal.loop-n-init
unfolding first_pin
loop-n-init c = let a = c.args in
    let x = side_of a.self.bits.now in
    (omega (arith, price_start a.self.netlist.bytes.now x, price_start a.self.netlist.bytes.now (flipped x a.m)), omega arith, omega arith, refl)

pub overflow_add-first : goal.overflow_add-first
overflow_add-first c = omega (arith, (sound_netlist c.args.self.netlist).few_pins, c.pin_count-first.ensures.0, next_within c.args.self.netlist.bytes.now (sound_netlist c.args.self.netlist) c.loop-n.n (omega arith))

pub loop-n-preserved : goal.loop-n-preserved
loop-n-preserved c = let a = c.args in
    let i = c.loop-n in
    let s = a.self.netlist.bytes.now in
    let x = side_of a.self.bits.now in
    let y = flipped x a.m in
    let e = net_of s i.n in
    let l : i.n < nets s = omega arith in
    let before : c.crosses_with-before.result ≡ crosses x e = c.crosses_with-before.ensures ∙ ap₂ crosses_with c.apart_from-a.ensures c.inside-on.ensures ∙ stays x a.m e in
    let after : c.crosses_with-after.result ≡ crosses y e =
    c.crosses_with-after.ensures ∙ ap₂ (λ (p : Apart) (b : Bool). crosses_with p (not b)) c.apart_from-a.ensures c.inside-on.ensures ∙ moves x a.m e in
    let gains = c.weigh-gained.ensures.0 ∙ ap₂ (λ (p q : Bool). cond (q && not p) (weight s i.n) 0) before after in
    let loses = c.weigh-lost.ensures.0 ∙ ap₂ (λ (p q : Bool). cond (p && not q) (weight s i.n) 0) before after in (
      omega (arith, i.invariant.0, price_next s x i.n l, price_next s y i.n l, gains, loses, net_turns x y e),
      omega arith,
      omega arith,
      ap₂ (λ (p q : ℕ). p + q) i.invariant.3 c.pin_count-first.ensures.0 ∙ sym (first_pin-suc s i.n),
    )

pub less-requires : goal.less-requires
less-requires c = let few = (sound_netlist c.args.self.netlist).few_nets in (omega arith, omega arith)

pub returns : goal.returns
returns c = let a = c.args in
    let i = c.loop-n in
    let s = a.self.netlist.bytes.now in
    let x = side_of a.self.bits.now in
    let y = flipped x a.m in
    let e : i.n ≡ nets s = omega arith in
    let whole : (z : Side) → price (take i.n (nets_of s)) z ≡ price (nets_of s) z = λ z. ap (λ (k : ℕ). price (take k (nets_of s)) z) e ∙ price_all s z in
    to_z-of_z w64 c.less.result (record { sfits = c.less.type_inv }) ∙ c.less.ensures
    ∙ differences i.gained i.lost (price (nets_of s) y) (price (nets_of s) x) (omega (arith, i.invariant.0, whole x, whole y))
