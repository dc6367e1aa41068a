-- `side::ones` meets its contract. The loop's invariant: the sum is the count of the modules in the bytes passed. Assumes nothing.
use mathlib.Core.Path.{◌≡◌, refl, sym, ap, ◌∙◌}
use Prim.Native.Nat.{ℕ, ◌+◌, ◌*◌}
use lib.ListN.{get_or}
use lib.Count.{ones, ones-le}
use Rattle.side.proofs.Counts.{count_in, next_word, count-le, bits_inside}
use native.Mathlib.Omega.{arith}
use Rattle.side.proofs.ones.Goals as goal

pub loop-i-init : goal.loop-i-init
unfolding count_in
loop-i-init c = refl

pub overflow_cast-sum : goal.overflow_cast-sum
overflow_cast-sum c = omega (arith, ones-le 8 (get_or c.args.side.now c.loop-i.i 0) (c.type_inv.side c.loop-i.i).fits)

pub overflow_add-sum : goal.overflow_add-sum
overflow_add-sum c = let l = c.args.side.now in
    let i = c.loop-i.i in
    omega (arith, count-le 8 l (i * 8), ones-le 8 (get_or l i 0) (c.type_inv.side i).fits)

pub loop-i-preserved : goal.loop-i-preserved
loop-i-preserved c = let l = c.args.side.now in
    let i = c.loop-i.i in
    (ap (λ (k : ℕ). k + ones (get_or l i 0)) c.loop-i.invariant ∙ sym (next_word 8 l i (c.type_inv.side i).fits))

pub returns : goal.returns
returns c = let l = c.args.side.now in
    let n = c.args.n in
    let e : c.loop-i.i ≡ n = omega arith in
    let r : c.loop-i.sum ≡ count_in 8 l (n * 8) = c.loop-i.invariant ∙ ap (λ (k : ℕ). count_in 8 l (k * 8)) e in
    (r ∙ bits_inside l (n * 8), omega (arith, r, count-le 8 l (n * 8)))
