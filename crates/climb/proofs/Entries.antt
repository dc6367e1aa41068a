-- A step onward as one number: what the tests at a pin tell of it, and what the number then says. Assumes nothing.
use mathlib.Core.Path.{◌≡◌, sym, ap, ◌∙◌, subst}
use mathlib.Core.Logic.{◌≢◌}
use mathlib.Core.Bool.{Bool, true, ◌&&◌, and-eq-true_iff}
use mathlib.Core.List.{List}
use Prim.Native.Nat.{ℕ, ◌+◌, ◌≤◌, ◌<◌}
use native.Mathlib.Omega.{arith}
use lib.ListN.{length, get_or}
use lib.Dec.{eqb}
use borrow.Author.Tests.{eqb-true}
use Rattle.flow.specs.Search.{Pin, Tables}
use Rattle.flow.specs.declared.board.Board.{Board}
use Rattle.flow.specs.Board.{board_card}
use Rattle.flow.proofs.BoardLaws.{tables_of}
use Rattle.flow.proofs.VisitLaws.{Read, read}
use Rattle.flow.proofs.CardLaws.{Made, card_made, grid_of, run_net}
use Rattle.climb.specs.Climb.{Guided, Entry, Onward}

-- the step leaves by pin a of u, the pins looked at are those of a's net, and the net's room is free only if its mark is 0
pub onward_of : (b : Board) → Guided b → (w sn : List ℕ) (wide : Bool) (u r a : ℕ) {n lo hi x : ℕ} → a < length b.mods.now → get_or b.mods.now a 0 ≡ u → r ≤ length b.mark.now →
    n ≡ get_or b.nets.now a 0 → lo ≡ get_or b.first.now n 0 → hi ≡ get_or b.first.now (n + 1) 0 → Entry b.mods.now b.mark.now w lo hi (wide && eqb (get_or sn n 0) 0) r a x → Onward b.mods.now b.nets.now b.mark.now w sn u r x
onward_of b fit w sn wide u r a {n} {lo} {hi} {x} la eu lr en el eh y = record {
  in_left = omega (arith, z.left);
  in_entered = omega (arith, z.entered, lb);
  same = ap (λ (j : ℕ). get_or b.nets.now j 0) z.entered ∙ run_net _ b.first.now b.mods.now b.weight.now b.nets.now made (grid_of _ b.first.now b.mods.now b.weight.now b.nets.now b.at.now b.pins.now (length b.mark.now) made tables) n y.pin ln on ∙ en ∙ ap (λ (j : ℕ). get_or b.nets.now j 0) (sym z.left);
  from = ap (λ (j : ℕ). get_or b.mods.now j 0) z.left ∙ eu;
  fresh = subst (λ (j : ℕ). get_or w (get_or b.mods.now j 0) 0 ≡ 0) (sym z.entered) y.fresh;
  no_meter = subst (λ (j : ℕ). get_or b.mark.now (get_or b.mods.now j 0) 0 ≢ 1) (sym z.entered) y.no_meter;
  rank = omega (arith, y.number, y.small, la, lb, few);
  few = lr;
  small = omega (arith, z.kind, y.small);
  room = λ e. ap (λ (j : ℕ). get_or sn j 0) (ap (λ (j : ℕ). get_or b.nets.now j 0) z.left ∙ sym en) ∙ free (y.room (sym z.kind ∙ e));
}
  where
    few : length b.mods.now < 16384
    few = b.few

    tables : Tables b.first.now b.mods.now b.weight.now b.nets.now b.at.now b.pins.now (length b.mark.now)
    tables = tables_of b

    ln : n < length b.weight.now
    ln = omega (arith, en, (tables.net a la).0)

    made : Made (board_card b) b.first.now b.mods.now b.weight.now
    made = card_made b.first.now b.mods.now b.weight.now b.mark.now fit.laid

    on : Pin (get_or b.first.now n 0) (get_or b.first.now (n + 1) 0) y.pin
    on = record { low = omega (arith, el, y.on.low); high = omega (arith, eh, y.on.high) }

    lb : y.pin < length b.mods.now
    lb = omega (arith, on.high, tables.inside n ln)

    z : Read a y.by y.pin x
    z = read a y.by y.pin r x (omega (arith, few)) y.small (omega (arith, few, lb)) y.number

    free : (wide && eqb (get_or sn n 0) 0) ≡ true → get_or sn n 0 ≡ 0
    free e = eqb-true (get_or sn n 0) 0 ((and-eq-true_iff wide (eqb (get_or sn n 0) 0)).0 e).1
