-- What is taken off the way is put back.
use Rattle.std.proofs.Common.{◌≡◌, ℕ, List, get_or, set, ap, ◌∙◌}
use Rattle.std.proofs.lemmas.List.{set-set, set-get_or}
use Rattle.climb.proofs.onward.instead.Goals as goal

put_back : (w : List ℕ) (v : ℕ) → set (set w v 0) v (get_or w v 0) ≡ w
put_back w v = set-set w v 0 (get_or w v 0) ∙ set-get_or w v 0

pub returns-in_err-step-clause-kept : goal.returns-in_err-step-clause-kept
returns-in_err-step-clause-kept c = put_back c.args.how.now c.args.v

pub only_to-requires : goal.only_to-requires
only_to-requires c =
    let args = c.args in
    let u-is = c.from-u.ensures ∙ ap (λ (i : ℕ). get_or args.load.now.land.now.board.mods.now i 0) c.left_pin.ensures in
    let step = rw c.in_ok-step.was at c.widest-step.ensures in
    rw put_back (rw (← c.rank_of-rank.ensures, ← u-is) step)

pub returns-clause-kept : goal.returns-clause-kept
returns-clause-kept c = put_back c.args.how.now c.args.v

pub returns-clause-step : goal.returns-clause-step
returns-clause-step c = rw put_back at c.only_to.ensures
