-- `walk::round::round_on` meets its contract. Assumes nothing.
use Rattle.walk.proofs.Steps.{one_round}
use Rattle.walk.proofs.round.round_on.Goals as goal

pub returns : goal.returns
returns c = one_round c.args.numbers.now.netlist.bytes.now _ _ _ _ _ _ c.near.ensures c.step.ensures
