-- What a board holds and the climb asks of it, together: the arrays of a card and its tables. Assumes nothing.
use mathlib.Core.Path.{◌≡◌, ap, ◌∙◌}
use Prim.Native.Nat.{ℕ, ◌<◌}
use native.Mathlib.Omega.{arith}
use lib.ListN.{length, get_or}
use Rattle.flow.specs.declared.board.Board.{Board}
use Rattle.flow.proofs.BoardLaws.{tables_of}
use Rattle.climb.specs.Climb.{Lay, Guided, Named}

-- it asks no more and no less than `Lay`
pub lay_of : (b : Board) → Guided b → Lay b.first.now b.mods.now b.weight.now b.nets.now b.at.now b.pins.now b.mark.now
lay_of b g = record { laid = g.laid; tables = tables_of b; few_pins = b.few; few_modules = g.few_modules; few_nets = g.few_nets }

pub guided_of : (b : Board) → Lay b.first.now b.mods.now b.weight.now b.nets.now b.at.now b.pins.now b.mark.now → Guided b
guided_of b l = record { laid = l.laid; few_modules = l.few_modules; few_nets = l.few_nets }

pub nets_of : (b : Board) → Named b.nets.now (length b.weight.now)
nets_of b p l =
    let t = tables_of b in
    (t.net p (omega (arith, t.counts))).0

-- the net n of pin a, as the code reads it
pub net_below : (b : Board) {p n : ℕ} (a : ℕ) → a < length b.mods.now → p ≡ a → n ≡ get_or b.nets.now p 0 → n < length b.weight.now
net_below b a l ep en = omega (arith, ((tables_of b).net a l).0, en ∙ ap (λ (k : ℕ). get_or b.nets.now k 0) ep)
