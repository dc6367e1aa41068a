-- Each pin looked at is one of `u`.
use Rattle.std.proofs.Common.{rules, arith}
use Rattle.flow.proofs.BoardLaws.{tables_of}
use Rattle.climb.proofs.onward.onward.Goals as goal

pub leave_by-step-requires : goal.leave_by-step-requires
leave_by-step-requires c =
    let pre = c.requires in
    let own = (tables_of c.args.sight.now.load.land.now.board).own c.args.u c.loop-i.i pre (record { low = omega arith; high = omega arith }) in
    (own.0, own.1, search rules, search rules, search rules)
