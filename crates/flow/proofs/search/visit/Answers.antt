-- `flow::search::visit` meets its contract: the module's places before that of `a` have been visited (`PinsDone`). Assumes nothing.
use mathlib.Core.Path.{◌≡◌, subst}
use Prim.Native.Nat.{ℕ, ◌+◌}
use Rattle.std.proofs.Common.{add_assoc}
use borrow.Author.Rules.{rules}
use native.Mathlib.Omega.{arith}
use lib.ListN.{get_or}
use Rattle.flow.specs.Search.{st, PinDone, PinsDone}
use Rattle.flow.proofs.BoardLaws.{tables_of, own_at}
use Rattle.flow.proofs.VisitLaws.{pins_step}
use Rattle.flow.proofs.search.visit.Goals as goal

pub visit_pin-tail-requires : goal.visit_pin-tail-requires
visit_pin-tail-requires c =
    let own = own_at c.args.board.now c.args.u c.loop-a.a-index c.requires.1 c.from.ensures c.from-2.ensures (omega arith) in
    (own.pin, c.requires.0, search rules, c.loop-a.invariant.seen, search rules)

pub loop-a-preserved : goal.loop-a-preserved
loop-a-preserved c =
    let b = c.args.board.now in
    let own = own_at b c.args.u c.loop-a.a-index c.requires.1 c.from.ensures c.from-2.ensures (omega arith) in
    rw (← add_assoc (get_or b.at.now c.args.u 0) c.loop-a.a-index 1) (pins_step _ _ _ _ _ _ _ b.at.now _ c.loop-a.invariant own.mine
    (subst (λ (a : ℕ). PinDone c.args.back b.first.now b.mods.now b.weight.now c.args.flow.now c.args.sums.now b.nets.now a (st c.loop-a.queue c.loop-a.how c.loop-a.seen) c.loop-a.tail (st c.visit_pin-tail.new.queue c.visit_pin-tail.new.how c.visit_pin-tail.new.seen) c.visit_pin-tail.result) own.at c.visit_pin-tail.ensures))

pub returns : goal.returns
returns c =
    let b = c.args.board.now in
    let t = tables_of b in
    let end : get_or b.at.now c.args.u 0 + c.loop-a.a-index ≡ get_or b.at.now (c.args.u + 1) 0 = omega (arith, t.rises c.args.u c.requires.1) in
    subst (λ (i : ℕ). PinsDone c.args.back b.first.now b.mods.now b.weight.now c.args.flow.now c.args.sums.now b.nets.now b.pins.now c.args.u (get_or b.at.now c.args.u 0) i (st c.args.queue.now c.args.how.now c.args.seen.now) c.args.t (st c.loop-a.queue c.loop-a.how c.loop-a.seen) c.loop-a.tail) end c.loop-a.invariant
