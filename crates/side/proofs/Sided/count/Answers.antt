-- `side::Sided::count` meets its contract: the ones of all the bytes, less the spare bits, which add nothing. Assumes nothing.
use mathlib.Core.Path.{sym, ap, ◌∙◌}
use Prim.Native.Nat.{ℕ, ◌*◌, ◌≤◌}
use Rattle.line.specs.Card.{count_to}
use Rattle.book.specs.Format.{modules}
use Rattle.side.specs.Sides.{side_of, bytes_for}
use Rattle.side.proofs.Counts.{spare_adds_nothing, bits_inside}
use native.Mathlib.Omega.{arith}
use Rattle.side.proofs.Sided.count.Goals as goal

pub returns : goal.returns
returns c = let l = c.args.self.bits.now in
    let m = modules c.args.self.netlist.bytes.now in
    let enough : m ≤ bytes_for m * 8 = omega arith in
    c.ones.ensures.0 ∙ ap (λ (k : ℕ). count_to (side_of l) (bytes_for k * 8)) c.modules.ensures
    ∙ sym (bits_inside l (bytes_for m * 8)) ∙ spare_adds_nothing 8 l m (bytes_for m) c.requires enough ∙ bits_inside l m
