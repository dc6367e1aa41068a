-- `audit::agree` meets its contract: where taken is at most sent, their difference is the price exactly where sent is taken and the price. Assumes nothing.
use Prim.Native.Nat.{ℕ, ◌+◌, ◌-◌, ◌≤◌}
use mathlib.Core.Bool.{Bool, ◌&&◌}
use mathlib.Core.Path.{◌≡◌, sym, ap, ◌∙◌}
use native.Mathlib.Decide.{ℕ_discrete}
use native.Mathlib.Omega.{arith}
use lib.Dec.{eqb}
use borrow.Author.Tests.{eq-eqb, ne_eqb}
use Rattle.audit.specs.Checker.{agree}
use Rattle.audit.proofs.agree.Goals as goal

moved : (a b p : ℕ) → b ≤ a → Dec (a ≡ b + p) → eqb (a - b) p ≡ eqb a (b + p)
moved a b p l (yes e) = eq-eqb (a - b) p (omega arith) ∙ sym (eq-eqb a (b + p) e)
moved a b p l (no n) = ne_eqb (a - b) p (λ e. n (omega arith)) ∙ sym (ne_eqb a (b + p) n)

pub returns-then-taken-sent : goal.returns-then-taken-sent
unfolding agree
returns-then-taken-sent c =
    let a = c.args in
    ap (λ (b : Bool). b && eqb a.price a.claim) (moved a.sent a.taken a.price c.if-taken-sent.true (ℕ_discrete a.sent (a.taken + a.price)))

pub returns-else-taken-sent : goal.returns-else-taken-sent
unfolding agree
returns-else-taken-sent c =
    let a = c.args in
    rw (ne_eqb a.sent (a.taken + a.price) (λ e. omega arith))
