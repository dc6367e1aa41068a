-- What the engine's answer tells its caller: the flow of zeros is fair, no flow has a higher value than the one that was raised, and its numbers are small. Assumes nothing.
use mathlib.Core.Path.{sym, subst}
use mathlib.Core.List.{List}
use Prim.Native.Nat.{ℕ, ◌≤◌, ◌<◌}
use native.Mathlib.Omega.{arith}
use lib.ListN.{length, get_or}
use lib.IntN.{ℤ, pos}
use lib.Signed.{◌≤ℤ◌}
use Rattle.line.specs.Card.{Card, Side}
use Rattle.line.specs.Flow.{Fair, value}
use Rattle.line.proofs.Ways.{plainly}
use Rattle.line.proofs.WayFlow.{Valid}
use Rattle.line.proofs.Duality.{weak_duality}
use Rattle.line.proofs.Search.{Still, still_fair}
use Rattle.flow.specs.Search.{Tables}
use Rattle.flow.specs.Cards.{card_of, Laid, Small}
use Rattle.flow.specs.Raise.{Raised}
use Rattle.flow.proofs.CardLaws.{card_made, grid_of}
use Rattle.flow.proofs.RaiseLaws.{small_number}

-- before raise: a flow of zeros
pub zeros_fair : (c : Card) (fl : List ℤ) → Still fl → Fair c fl
zeros_fair c fl z = (still_fair plainly c fl z).fair

-- after raise: no fair flow has a higher value
pub raised_most : (c : Card) → Valid c → (ms sm : List ℕ) (fl : List ℤ) (s : Side) → Raised c ms sm fl s → (xs : List ℤ) → Fair c xs → value c xs ≤ℤ value c fl
raised_most c valid ms sm fl s r xs fair = subst (λ (v : ℤ). value c xs ≤ℤ v) (sym r.value) (weak_duality c valid xs fair s r.near.cheapest.separates)

-- each number is within -65535 .. 65535
pub raised_small : (fs ms ws nt at pl mk sm : List ℕ) (fl : List ℤ) (s : Side) → Laid fs ms ws mk → Tables fs ms ws nt at pl (length mk) → ((e : ℕ) → e < length ws → get_or ws e 0 ≤ 65535) →
    Raised (card_of fs ms ws mk) ms sm fl s → (p : ℕ) → p < length ms → Small (get_or fl p (pos 0))
raised_small fs ms ws nt at pl mk sm fl s laid tables heavy r =
    let made = card_made fs ms ws mk laid in
    small_number (card_of fs ms ws mk) ms nt (grid_of (card_of fs ms ws mk) fs ms ws nt at pl (length mk) made tables)
    (λ e l. let k : e < length ws = omega (arith, made.nets) in omega (arith, made.weight e k, heavy e k)) fl r.fair.nets
