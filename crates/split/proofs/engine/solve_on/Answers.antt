use Rattle.flow.specs.Cards.{card_of}
use mathlib.Core.Path.{◌∙◌}
use lib.Seq.{length-take-le}
use native.Mathlib.Omega.{arith}
use Rattle.split.proofs.engine.solve_on.Goals as goal

pub solve_in-requires : goal.solve_in-requires
unfolding card_of
solve_in-requires c =
    let p = c.requires.0 in
    let b = c.requires.1 in
    (record { laid = p.laid; modules = omega (arith, p.few_modules); queue = length-take-le _ _ p.few_modules; how = length-take-le _ _ p.few_modules; seen = length-take-le _ _ p.few_nets; sums = length-take-le _ _ p.few_nets }, c.lift.ensures, c.lift.auto.flow ∙ b.long, b.rooms)
