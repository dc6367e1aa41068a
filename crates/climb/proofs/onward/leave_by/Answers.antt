-- The pins looked at are those of the net of `a`.
use Rattle.std.proofs.Common.{ℕ, get_or, nat_lt, ap, ◌∙◌, arith}
use Rattle.std.proofs.lemmas.Option.{IfSome_then}
use Rattle.flow.proofs.BoardLaws.{tables_of}
use Rattle.climb.proofs.Boards.{net_below}
use Rattle.climb.proofs.Entries.{onward_of}
use Rattle.climb.proofs.onward.leave_by.Goals as goal

pub bounds-sight-n : goal.bounds-sight-n
bounds-sight-n c = omega (arith, net_below c.args.sight.now.load.land.now.board c.args.a c.requires.0 c.from-p.ensures c.from-n.ensures, c.args.sight.now.load.level.sums)

pub bounds-board-n : goal.bounds-board-n
bounds-board-n c = net_below c.args.sight.now.load.land.now.board c.args.a c.requires.0 c.from-p.ensures c.from-n.ensures

pub bounds-board-n-2 : goal.bounds-board-n-2
bounds-board-n-2 c = omega (arith, net_below c.args.sight.now.load.land.now.board c.args.a c.requires.0 c.from-p.ensures c.from-n.ensures, c.args.sight.now.load.land.now.board.firsts)

pub bounds-board-n-3 : goal.bounds-board-n-3
bounds-board-n-3 c = omega (arith, net_below c.args.sight.now.load.land.now.board c.args.a c.requires.0 c.from-p.ensures c.from-n.ensures, c.args.sight.now.load.land.now.board.firsts)

pub bounds-sight-n-2 : goal.bounds-sight-n-2
bounds-sight-n-2 c = omega (arith, net_below c.args.sight.now.load.land.now.board c.args.a c.requires.0 c.from-p.ensures c.from-n.ensures, c.args.sight.now.sized.seen)

pub entry-requires : goal.entry-requires
entry-requires c =
    let b = c.args.sight.now.load.land.now.board in
    let pre = c.requires in
    let t = tables_of b in
    (omega (arith, t.inside c.from-n.result (net_below b c.args.a pre.0 c.from-p.ensures c.from-n.ensures), c.from-3.ensures), omega (arith, pre.2, c.args.sight.now.load.land.now.guided.few_modules), omega (arith, pre.0, b.few))

pub returns : goal.returns
returns c =
    let args = c.args in
    let pre = c.requires in
    let n-is = c.from-n.ensures ∙ ap (λ (k : ℕ). get_or args.sight.now.load.land.now.board.nets.now k 0) c.from-p.ensures in
    IfSome_then c.entry.result c.entry.ensures (λ x e. onward_of args.sight.now.load.land.now.board c.args.sight.now.load.land.now.guided args.sight.now.how.now args.sight.now.seen.now (nat_lt (get_or args.sight.now.load.sums.now c.from-n.result 0) c.from.result) args.u args.rank args.a pre.0 pre.1 pre.2 n-is c.from-2.ensures c.from-3.ensures e)
