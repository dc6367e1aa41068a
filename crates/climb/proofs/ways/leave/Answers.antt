-- The way ends at the module before, whose rank is lower.
use Rattle.std.proofs.Common.{◌≡◌, ℕ, length, get_or, ap, ◌∙◌}
use borrow.Author.Rules.{rules}
use Rattle.flow.specs.Search.{kind}
use Rattle.climb.proofs.Threads.{thread_leave_room, thread_leave_undo, leave_lower}
use Rattle.climb.proofs.ways.leave.Goals as goal
use Rattle.climb.proofs.ways.leave.Goals.{then-eq, else-eq}

pub returns : goal.returns
returns c =
    let args = c.args in
    let b = args.board.now in
    let count = length b.weight.now in
    let pre = c.requires in
    let a = c.left_pin-a in
    let to = c.from.ensures ∙ ap (λ (i : ℕ). get_or b.mods.now i 0) a.ensures in (
      (
        elim c.if-eq.branch [
          | then-eq w ↦
              let room : kind (get_or args.how.now args.u 0) ≡ 0 = search rules in
              thread_leave_room b.mods.now b.nets.now b.mark.now args.how.now args.seen.now count args.u pre.0.0 pre.1 to (w.from-n.ensures ∙ ap (λ (i : ℕ). get_or b.nets.now i 0) a.ensures) w.seen-is room
          | else-eq w ↦ thread_leave_undo b.mods.now b.nets.now b.mark.now args.how.now args.seen.now count args.u pre.0.0 pre.1 to w.seen-is
        ],
        c.if-eq.auto.seen ∙ pre.0.1,
      ),
      leave_lower b.mods.now b.nets.now b.mark.now args.how.now args.seen.now count args.u pre.0.0 pre.1 to,
    )
