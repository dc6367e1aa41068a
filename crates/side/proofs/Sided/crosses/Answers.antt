-- `side::Sided::crosses` meets its contract: `on` and `off` say whether a pin of net n before pin `j` is on the side, and off it. Assumes nothing.
use Prim.Native.Nat.{ℕ, ◌<◌}
use mathlib.Core.Path.{◌≡◌, sym, ap, ap₂, ◌∙◌}
use mathlib.Core.Bool.{Bool, ◌&&◌, ◌||◌, not}
use lib.ListN.{take}
use Rattle.line.specs.Card.{outside, touches, crosses}
use Rattle.book.specs.Format.{pin_count}
use Rattle.book.specs.Cards.{pins_of}
use Rattle.book.proofs.CardLaws.{touches_start, touches_next, touches_all}
use Rattle.side.specs.Sides.{side_of}
use native.Mathlib.Omega.{arith}
use Rattle.side.proofs.Sided.crosses.Goals as goal

pub loop-j-init : goal.loop-j-init
loop-j-init c = let a = c.args in
    let x = side_of a.self.bits.now in
    (sym (touches_start a.self.netlist.bytes.now x a.n), sym (touches_start a.self.netlist.bytes.now (outside x) a.n))

pub loop-j-preserved : goal.loop-j-preserved
loop-j-preserved c = let a = c.args in
    let i = c.loop-j in
    let x = side_of a.self.bits.now in
    let l : i.j < pin_count a.self.netlist.bytes.now a.n = omega arith in
    let b = c.inside-b.ensures ∙ ap x c.pin_of.ensures.0 in (
      ap₂ (λ (p q : Bool). p || q) i.invariant.0 b ∙ sym (touches_next a.self.netlist.bytes.now x a.n i.j l),
      ap₂ (λ (p q : Bool). p || not q) i.invariant.1 b ∙ sym (touches_next a.self.netlist.bytes.now (outside x) a.n i.j l),
    )

pub returns : goal.returns
unfolding crosses
returns c = let a = c.args in
    let i = c.loop-j in
    let s = a.self.netlist.bytes.now in
    let x = side_of a.self.bits.now in
    let e : i.j ≡ pin_count s a.n = omega arith in
    ap₂ (λ (p q : Bool). p && q)
    (i.invariant.0 ∙ ap (λ (k : ℕ). touches x (take k (pins_of s a.n))) e ∙ touches_all s x a.n)
    (i.invariant.1 ∙ ap (λ (k : ℕ). touches (outside x) (take k (pins_of s a.n))) e ∙ touches_all s (outside x) a.n)
