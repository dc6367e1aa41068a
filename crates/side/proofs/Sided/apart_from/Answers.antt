-- `side::Sided::apart_from` meets its contract: each flag tells of the pins of net n before pin `j`. Assumes nothing.
use Prim.Native.Nat.{ℕ, ◌<◌}
use mathlib.Core.Path.{◌≡◌, sym, ap, ap₂, ◌∙◌}
use mathlib.Core.Bool.{Bool, ◌&&◌, ◌||◌, not}
use lib.ListN.{take}
use Rattle.line.specs.Card.{Side, outside, both, touches}
use Rattle.line.specs.Flow.{only}
use Rattle.book.specs.Format.{pin_count}
use Rattle.book.specs.Cards.{pins_of}
use Rattle.book.proofs.CardLaws.{touches_start, touches_next, touches_all}
use Rattle.side.specs.Sides.{side_of}
use native.Mathlib.Omega.{arith}
use Rattle.side.proofs.Sided.apart_from.Goals as goal

pub loop-j-init : goal.loop-j-init
loop-j-init c = let a = c.args in
    let x = side_of a.self.bits.now in
    let o = only a.m in
    let none : (y : Side) → _ = λ y. sym (touches_start a.self.netlist.bytes.now y a.n) in
    (none o, none (both x (outside o)), none (both (outside x) (outside o)))

pub loop-j-preserved : goal.loop-j-preserved
loop-j-preserved c = let a = c.args in
    let i = c.loop-j in
    let s = a.self.netlist.bytes.now in
    let x = side_of a.self.bits.now in
    let o = only a.m in
    let l : i.j < pin_count s a.n = omega arith in
    let p = c.pin_of-p.ensures.0 in
    let b = c.inside-b.ensures ∙ ap x p in
    let own = ap o p in (
      ap₂ (λ (p q : Bool). p || q) i.invariant.0 own ∙ sym (touches_next s o a.n i.j l),
      ap₂ (λ (p q : Bool). p || q) i.invariant.1 (ap₂ (λ (p q : Bool). p && not q) b own) ∙ sym (touches_next s (both x (outside o)) a.n i.j l),
      ap₂ (λ (p q : Bool). p || q) i.invariant.2 (ap₂ (λ (p q : Bool). not p && not q) b own) ∙ sym (touches_next s (both (outside x) (outside o)) a.n i.j l),
    )

pub returns : goal.returns
returns c = let a = c.args in
    let i = c.loop-j in
    let s = a.self.netlist.bytes.now in
    let x = side_of a.self.bits.now in
    let o = only a.m in
    let e : i.j ≡ pin_count s a.n = omega arith in
    let all : (y : Side) → touches y (take i.j (pins_of s a.n)) ≡ touches y (pins_of s a.n) =
    λ y. ap (λ (k : ℕ). touches y (take k (pins_of s a.n))) e ∙ touches_all s y a.n in
    let has = i.invariant.0 ∙ all o in
    let on = i.invariant.1 ∙ all (both x (outside o)) in
    let off = i.invariant.2 ∙ all (both (outside x) (outside o)) in
    λ k. record { has = has k; on = on k; off = off k }
