-- `flow::search::visit_pin` meets its contract. Assumes nothing.
use lib.ListN.{get_or, set}
use lib.IntN.{ℤ, pos}
use lib.Dec.{ltb}
use Prim.Native.Nat.{ℕ, ◌+◌}
use mathlib.Core.Bool.{not, true≢false}
use mathlib.Core.Path.{◌≡◌, sym, ap, ◌∙◌, subst}
use native.Mathlib.Omega.{arith}
use borrow.Author.Rules.{rules}
use Rattle.flow.specs.Search.{st, gives, gift, Kind, Enough, PinDone}
use Rattle.std.proofs.lemmas.Grind.{common_steps}
use Rattle.flow.specs.Kinds.{number_of}
use Rattle.flow.proofs.BoardLaws.{visit_at}
use Rattle.flow.proofs.Numbers.{read_back}
use Rattle.flow.proofs.SpreadLaws.{spread_at}
use Rattle.flow.proofs.VisitLaws.{pin_spread}
use Rattle.flow.proofs.search.visit_pin.Goals as goal

pub bounds-board-n-3 : goal.bounds-board-n-3
bounds-board-n-3 c =
    let v = visit_at c.args.board.now c.args.a c.requires.1 c.requires.0 in
    omega (arith, v.net, v.firsts, c.from-n.ensures ∙ ap (λ (k : ℕ). get_or c.args.board.now.nets.now k 0) c.from-p.ensures)

pub spread-requires : goal.spread-requires
spread-requires c =
    let v = visit_at c.args.board.now c.args.a c.requires.1 c.requires.0 in
    let net = c.from-n.ensures ∙ ap (λ (k : ℕ). get_or c.args.board.now.nets.now k 0) c.from-p.ensures in
    let lo = c.from.ensures ∙ ap (λ (k : ℕ). get_or c.args.board.now.first.now k 0) net in
    let hi = c.from-2.ensures ∙ ap (λ (k : ℕ). get_or c.args.board.now.first.now (k + 1) 0) net in
    (omega (arith, v.on.low, v.on.high), omega (arith, v.ends), omega (arith, v.ends, v.flows), omega (arith, v.ends, v.few), omega (arith, c.pack_from.ensures, c.kind_of-kind.ensures.small, v.few), omega (arith, v.few), c.requires.2)

pub returns : goal.returns
returns c =
    let b = c.args.board.now in
    let v = visit_at b c.args.a c.requires.1 c.requires.0 in
    let start = st c.args.queue.now c.args.how.now c.args.seen.now in
    let net = c.from-n.ensures ∙ ap (λ (k : ℕ). get_or b.nets.now k 0) c.from-p.ensures in
    let lo = c.from.ensures ∙ ap (λ (k : ℕ). get_or b.first.now k 0) net in
    let hi = c.from-2.ensures ∙ ap (λ (k : ℕ). get_or b.first.now (k + 1) 0) net in
    let takes : c.sends-takes.result ≡ ltb 0 (gift (not c.args.back) c.args.flow.now c.args.a) = c.sends-takes.ensures ∙ ap (λ (f : ℤ). ltb 0 (gives (not c.args.back) f)) (read_back (get_or c.args.flow.now c.from-p.result (pos 0)) (search rules)) ∙ ap (λ (k : ℕ). ltb 0 (gift (not c.args.back) c.args.flow.now k)) c.from-p.ensures in
    let k = number_of c.kind_of-kind.result in
    let kind = subst (λ (n : ℕ). Kind (get_or c.args.sums.now n 0) (get_or b.weight.now n 0) c.sends-takes.result k) net c.kind_of-kind.ensures in
    subst (λ (k : ℕ). PinDone c.args.back b.first.now b.mods.now b.weight.now c.args.flow.now c.args.sums.now b.nets.now c.args.a start c.args.t (st c.spread.new.queue c.spread.new.how (set c.args.seen.now k c.seen_mark.result)) c.spread.result) (sym net)
    (pin_spread _ _ _ _ _ _ _ c.args.a k c.sends-takes.result v takes kind _ (λ q. grind (arith, common_steps)) (λ q. grind (arith, common_steps)) c.pack_from.result c.pack_from-2.result c.seen_mark.result c.pack_from.ensures c.pack_from-2.ensures c.seen_mark.ensures.only c.seen_mark.ensures.all start c.args.t _ _ _ c.requires.3
    (λ e. true≢false (sym (c.if-seen_enough.ensures.1 (subst (λ (n : ℕ). Enough (get_or c.args.seen.now n 0) k) (sym net) e)))) (omega (arith, v.net)) (spread_at lo hi c.spread.ensures))
