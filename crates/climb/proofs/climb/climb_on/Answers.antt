-- The sums and the flow that a look is given are as long as the card has nets and pins.
use Rattle.std.proofs.Common.{◌∙◌}
use Rattle.flow.proofs.CardLaws.{card_made}
use Rattle.climb.proofs.climb.climb_on.Goals as goal

pub invariant_of-now : goal.invariant_of-now
invariant_of-now c =
    let b = c.args.land.now.board in
    record {
      nets = c.loop.invariant.0.sums.len ∙ (card_made b.first.now b.mods.now b.weight.now b.mark.now c.args.land.now.guided.laid).nets;
      pins = c.loop.invariant.0.flows;
    }
