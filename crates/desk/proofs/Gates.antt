-- A number that names no gate is a bad gate, whatever a and b are: on a book that reads the walk refuses it with 7 and writes nothing. Assumes nothing.
use Rattle.std.specs.Prelude.{Err}
use Prim.Native.Nat.{ℕ, ◌<◌}
use mathlib.Core.Path.{◌≡◌, ap, ◌∙◌}
use mathlib.Core.Bool.{false}
use mathlib.Core.List.{List, []}
use native.Mathlib.Omega.{arith}
use borrow.Author.Tests.{ne_eqb}
use lib.Ieee.{Float, le}
use lib.IntN.{ℤ}
use Rattle.book.specs.declared.Refusal.TheVariants.{Gate}
use Rattle.book.specs.Answer.{number_of, place_of}
use Rattle.side.specs.Given.{Reads}
use Rattle.gate.specs.Gates.{good_gate}
use Rattle.walk.specs.Call.{checked_of, refused, Left}
use Rattle.desk.specs.Answers.{places, bad_gate, gate_of, walk_places, WalkTold}

no_gate : (n : ℕ) (a b : Float) → 2 < n → gate_of n a b ≡ bad_gate
no_gate n a b h = rw (ne_eqb n 0 (λ e. omega arith), ne_eqb n 1 (λ e. omega arith), ne_eqb n 2 (λ e. omega arith))

pub no_gate_bad : (n : ℕ) (a b : Float) → 2 < n → good_gate (gate_of n a b) ≡ false
unfolding le
no_gate_bad n a b h = rw (no_gate n a b h)

-- the walk's answer to such a number
pub record Seven (side₀ rows₀ side rows : List ℕ) (eight : List ℤ) : Type 0 where
  pub numbers : eight ≡ places (number_of Gate) (place_of Gate) []
  pub side_kept : side ≡ side₀
  pub rows_kept : rows ≡ rows₀

pub no_gate_seven : (s : List ℕ) (n : ℕ) (a b : Float) (side₀ rows₀ side rows : List ℕ) (eight : List ℤ) → 2 < n → Reads s → WalkTold s (gate_of n a b) side₀ rows₀ side rows eight → Seven side₀ rows₀ side rows eight
unfolding checked_of
no_gate_seven s n a b side₀ rows₀ side rows eight h r k =
    let e : checked_of s (gate_of n a b) side₀ rows₀ ≡ Err Gate = rw (r.1, no_gate_bad n a b h) in
    let w : record { answer = k.answer; side = side; rows = rows } ≡ refused Gate side₀ rows₀ = rw e at k.walked in
    record {
      numbers = k.numbers ∙ ap (λ (l : Left). walk_places l.answer) w;
      side_kept = ap (λ (l : Left). l.side) w;
      rows_kept = ap (λ (l : Left). l.rows) w;
    }
