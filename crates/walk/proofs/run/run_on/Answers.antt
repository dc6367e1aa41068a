-- `walk::run::run_on` meets its contract: the walk stands at its marks, with its rows written; fewer modules are free after each round. Assumes nothing.
use Rattle.split.proofs.Loads.{sound_netlist}
use Rattle.walk.proofs.Runs.{going_start, going_room, going_few, going_again, going_less, going_ended}
use mathlib.Core.Path.{refl, ◌∙◌}
use native.Mathlib.Omega.{arith}
use Rattle.walk.proofs.run.run_on.Goals as goal

pub loop-w-init : goal.loop-w-init
loop-w-init c = (going_start (sound_netlist c.args.numbers.now.netlist) c.start-w.ensures.1 c.start-w.ensures.0, refl)

pub overflow_mul-place : goal.overflow_mul-place
overflow_mul-place c = record { fits = omega (arith, going_few (sound_netlist c.args.numbers.now.netlist) c.loop-w.invariant.0) }

pub round-w-requires : goal.round-w-requires
round-w-requires c =
    let i = c.loop-w.invariant in
    (i.0.marked, i.1 ∙ c.requires.0, going_few (sound_netlist c.args.numbers.now.netlist) i.0)

pub put_row-requires : goal.put_row-requires
put_row-requires c = omega (arith, going_room (sound_netlist c.args.numbers.now.netlist) c.loop-w.invariant.0 c.requires.1)

pub returns-in-Stops : goal.returns-in-Stops
returns-in-Stops c =
    let w = c.round-w in
    going_ended (sound_netlist c.args.numbers.now.netlist) c.loop-w.invariant.0 w.ensures.0 c.requires.1 c.put_row.ensures w.result refl refl w.ensures.1 c.in-Stops.is

pub loop-w-smaller : goal.loop-w-smaller
loop-w-smaller c =
    let t = c.in-Takes in
    going_less (sound_netlist c.args.numbers.now.netlist) c.loop-w.invariant.0 c.round-w.ensures.0 c.requires.1 c.put_row.ensures t.field-0 t.field-1 t.is

pub loop-w-preserved : goal.loop-w-preserved
loop-w-preserved c =
    let i = c.loop-w.invariant in
    let w = c.round-w in
    let t = c.in-Takes in
    (going_again (sound_netlist c.args.numbers.now.netlist) i.0 w.ensures.0 c.requires.1 c.put_row.ensures w.ensures.1 t.field-0 t.field-1 t.is, w.auto.flow ∙ i.1)
