use Rattle.std.proofs.Common.{rules, ◌≡◌, ◌∷◌, true, false}
use Rattle.std.specs.Fmt.{decimal, HasWritten}
use Rattle.std.proofs.Output.{has_written_append, has_written_of_eq}
use Rattle.trial.specs.Said.{on, off, picked_text}
use Rattle.trial.proofs.Picked.{picked_more, picked_less}
use Rattle.trial.proofs.said.ModulesDisplay.fmt.Goals as goal
use Rattle.trial.proofs.said.ModulesDisplay.fmt.Goals.{then-is_on+in_ok-write-in-On, else-is_on, then-is_off+in_ok-write-in-AllBut-2, else-is_off}

pub loop-m-preserved : goal.loop-m-preserved
loop-m-preserved g c =
    elim c.if-is_on.branch [
      | then-is_on+in_ok-write-in-On w ↦ λ plain.
          let there : on c.in-On.side.now c.loop-m.m-counter ≡ true = search rules in
          has_written_of_eq _ _ _ _ _ (picked_more (on c.in-On.side.now) c.loop-m.m-counter there) (has_written_append _ _ _ _ (32 ∷ decimal c.loop-m.m-counter) _ (c.loop-m.invariant plain) (search rules))
      | else-is_on w ↦ λ plain.
          let lacking : on c.in-On.side.now c.loop-m.m-counter ≡ false = search rules in
          let same : HasWritten g.W.Write.write_str_gives c.args.f.now (picked_text (on c.in-On.side.now) c.loop-m.m-counter) c.if-is_on.f
          = search (rules, c.loop-m.invariant plain) in
          has_written_of_eq _ _ _ _ _ (picked_less (on c.in-On.side.now) c.loop-m.m-counter lacking) same
    ]

pub loop-m-2-preserved : goal.loop-m-2-preserved
loop-m-2-preserved g c =
    elim c.if-is_off.branch [
      | then-is_off+in_ok-write-in-AllBut-2 w ↦ λ plain.
          let there : off c.in-AllBut.side.now c.loop-m-2.m-counter ≡ true = search rules in
          has_written_of_eq _ _ _ _ _ (picked_more (off c.in-AllBut.side.now) c.loop-m-2.m-counter there) (has_written_append _ _ _ _ (32 ∷ decimal c.loop-m-2.m-counter) _ (c.loop-m-2.invariant plain) (search rules))
      | else-is_off w ↦ λ plain.
          let lacking : off c.in-AllBut.side.now c.loop-m-2.m-counter ≡ false = search rules in
          let same : HasWritten g.W.Write.write_str_gives c.write-in-AllBut.new.self (picked_text (off c.in-AllBut.side.now) c.loop-m-2.m-counter) c.if-is_off.f
          = search (rules, c.loop-m-2.invariant plain) in
          has_written_of_eq _ _ _ _ _ (picked_less (off c.in-AllBut.side.now) c.loop-m-2.m-counter lacking) same
    ]
