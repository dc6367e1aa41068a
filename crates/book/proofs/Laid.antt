-- What check 1 tells of a book, as facts on numbers.
-- Assumes nothing.
use Rattle.std.specs.Prelude.{None}
use Prim.Native.Nat.{ℕ, ◌+◌, ◌%◌, ◌≤◌}
use mathlib.Core.Path.{◌≡◌, refl}
use mathlib.Core.Bool.{Bool, true, false, not, ◌&&◌, and-eq-true_iff}
use mathlib.Core.List.{List}
use lib.ListN.{length}
use lib.Dec.{leb, eqb}
use borrow.Author.Tests.{leb-true, le-leb, eqb-true, not-false}
use native.Mathlib.Omega.{arith}
use Rattle.book.specs.Format.{u16, u32, entry_is, laid, Laid, modules, nets, pins, first_pin}
use Rattle.book.specs.First.{lowest, find_if}
use Rattle.book.specs.Checks.{least_modules, most_modules, most_nets, most_pins, counted, bad_net, check4}
use Rattle.book.proofs.Firsts.{passed, both_nothing}
use Rattle.line.proofs.Bools.{and_four}

-- what check 1 asks, one by one
pub record Contents (s : List ℕ) : Type 0 where
  pub long : 32 ≤ length s
  pub count : u16 s 0 ≡ 3
  pub one : entry_is s 2 1 32 4 ≡ true
  pub two : entry_is s 12 2 (32 + u32 s 8) 4 ≡ true
  pub three : entry_is s 22 3 (32 + u32 s 8 + u32 s 18) 2 ≡ true
  pub end : 32 + u32 s 8 + u32 s 18 + u32 s 28 ≡ length s

pub contents : (s : List ℕ) → laid s ≡ true → Contents s
unfolding laid
contents s h =
    let a = (and-eq-true_iff _ _).0 h in
    let b = (and-eq-true_iff _ _).0 a.0 in
    let d = (and-eq-true_iff _ _).0 b.0 in
    let e = (and-eq-true_iff _ _).0 d.0 in
    let f = (and-eq-true_iff _ _).0 e.0 in
    record { long = leb-true _ _ f.0; count = eqb-true _ _ f.1; one = e.1; two = d.1; three = b.1; end = eqb-true _ _ a.1 }

-- a book without one of them is not laid
pub unlaid : (s : List ℕ) → (Contents s → ⊥) → false ≡ laid s
unlaid s f = go (laid s) (λ e. f (contents s e))
  where
    go : (b : Bool) → (b ≡ true → ⊥) → false ≡ b
    go true g = absurd (g refl)
    go false g = refl

-- and one whose entries are right is, where its count and its end are
pub laid_by : (s : List ℕ) → 32 ≤ length s → entry_is s 2 1 32 4 ≡ true → entry_is s 12 2 (32 + u32 s 8) 4 ≡ true →
    entry_is s 22 3 (32 + u32 s 8 + u32 s 18) 2 ≡ true → (eqb (u16 s 0) 3 && eqb (32 + u32 s 8 + u32 s 18 + u32 s 28) (length s)) ≡ laid s
unfolding laid
laid_by s l e f g = rw (le-leb _ _ l, e, f, g) (go (eqb (u16 s 0) 3) (eqb (32 + u32 s 8 + u32 s 18 + u32 s 28) (length s)))
  where
    go : (a b : Bool) → (a && b) ≡ (a && true && true && true && b)
    go true b = refl
    go false b = refl

record Entry (s : List ℕ) (at kind start unit : ℕ) : Type 0 where
  starts : u32 s (at + 2) ≡ start
  whole : u32 s (at + 6) % unit ≡ 0

entry : (s : List ℕ) (at kind start unit : ℕ) → entry_is s at kind start unit ≡ true → Entry s at kind start unit
unfolding entry_is
entry s at kind start unit h =
    let a = (and-eq-true_iff (eqb (u16 s at) kind && eqb (u32 s (at + 2)) start) (eqb (u32 s (at + 6) % unit) 0)).0 h in
    let b = (and-eq-true_iff (eqb (u16 s at) kind) (eqb (u32 s (at + 2)) start)).0 a.0 in
    record { starts = eqb-true _ _ b.1; whole = eqb-true _ _ a.1 }

pub laid_facts : (s : List ℕ) → laid s ≡ true → Laid s
laid_facts s h =
    let q = contents s h in
    let m = entry s 2 _ _ _ q.one in
    let n = entry s 12 _ _ _ q.two in
    let p = entry s 22 _ _ _ q.three in
    let z = q.end in
    let x : u32 s 4 ≡ 32 = m.starts in
    let y : u32 s 14 ≡ 32 + u32 s 8 = n.starts in
    let w : u32 s 24 ≡ 32 + u32 s 8 + u32 s 18 = p.starts in
    record {
      contents = q.long;
      modules_whole = m.whole;
      nets_at = omega arith;
      nets_whole = n.whole;
      pins_at = omega arith;
      pins_whole = p.whole;
      ends = omega arith;
    }

pub counted_nets : (s : List ℕ) → counted s ≡ true → nets s ≤ most_nets
unfolding counted
counted_nets s h = leb-true _ _ (and_four (leb least_modules (modules s)) (leb (modules s) most_modules) (leb (nets s) most_nets) (leb (pins s) most_pins) h).2

-- what check 4 tells
equal : (a b p : ℕ) → find_if (not (eqb a b)) p ≡ None → a ≡ b
equal a b p h = eqb-true a b (not-false _ (passed _ p h))

pub sum_right : (s : List ℕ) → check4 s ≡ None → first_pin s (nets s) ≡ pins s
unfolding check4
sum_right s h = equal _ _ (nets s) (both_nothing (lowest (bad_net s) (nets s)) _ h).1
