use Rattle.split.proofs.engine.solve_tabled.Goals as goal

pub invariant_of-board : goal.invariant_of-board
invariant_of-board c =
    let l = c.requires.0.laid in
    record { tables = ∣ c.build.ensures _ c.requires.1 ∣₁; firsts = l.firsts; below = l.below; few = c.requires.1.pins; light = λ n. (c.type_inv.weight n).fits }
