use Rattle.std.specs.Prelude.{Option, Some, None}
use Prim.Native.Nat.{ℕ, ◌+◌, ◌≤◌}
use native.Mathlib.Omega.{arith}
use mathlib.Core.Path.{◌≡◌, sym, ap₂, ◌∙◌}
use mathlib.Core.Bool.{true, ◌&&◌, true≢false}
use mathlib.Core.List.{List}
use lib.Dec.{eqb}
use lib.ListN.{length}
use Rattle.book.specs.Format.{u16, u32, entry_is}
use Rattle.book.specs.Steps.{step_entry, number_in}
use Rattle.book.specs.declared.Cursor.{Cursor}
use Rattle.book.proofs.Strides.{Goes, goes, ends, Enters, enters, refuses}
use Rattle.book.proofs.Laid.{unlaid, laid_by}
use Rattle.book.proofs.checks.is_laid.Goals as goal
use Rattle.book.proofs.checks.is_laid.Goals.{In-Some, In-Some-entry, In-Some-entry-2}

-- an entry that stands where it should
put : (s : List ℕ) (kind unit a b i j : ℕ) (r : Option (ℕ × Cursor)) → a ≡ b → i ≡ j → step_entry s a kind i unit ≡ r → step_entry s b kind j unit ≡ r
put s kind unit a b i j r e f h = rw (e, f) at h

-- and is not right: the book is not laid
missed : (s : List ℕ) (kind unit at start : ℕ) → at + 10 ≤ 32 → step_entry s at kind start unit ≡ None → 32 ≤ length s → entry_is s at kind start unit ≡ true → ⊥
missed s kind unit at start l e h t = true≢false (sym t ∙ refuses s at kind start unit e (omega arith))

counted : (c : In-Some) → Goes 2 u16 c.args.book.now 0 c.in-Some.count c.in-Some.first
counted c = let z = c.start-here.ensures in goes 2 u16 _ 0 _ _ (rw z at (sym c.next_u16.ensures.0 ∙ c.in-Some.is))

one : (c : In-Some-entry) → Goes 2 u16 c.args.book.now 0 c.in-Some.count c.in-Some.first → Enters c.args.book.now 2 1 32 4 c.in-Some-entry.second_body c.in-Some-entry.second
one c f = enters _ 2 1 32 4 _ _ (put _ 1 4 _ 2 32 32 _ f.after (omega arith) (sym c.entry.ensures.0 ∙ c.in-Some-entry.is))

two : (c : In-Some-entry-2) →
    Enters c.args.book.now 2 1 32 4 c.in-Some-entry.second_body c.in-Some-entry.second →
    Enters c.args.book.now 12 2 (32 + u32 c.args.book.now 8) 4 c.in-Some-entry-2.third_body c.in-Some-entry-2.third
two c f = enters _ 12 2 _ 4 _ _ (put _ 2 4 _ 12 _ _ _ f.after f.ends (sym c.entry-2.ensures.0 ∙ c.in-Some-entry-2.is))

-- where a body ends is as small as the contract says
few : (r : Option (ℕ × Cursor)) (n top : ℕ) (d : Cursor) → r ≡ Some (n, d) → number_in r ≤ top → n ≤ top
few r n top d e l = rw e at l

second_few : (c : In-Some-entry) → c.in-Some-entry.second_body ≤ 32 + 4294967295
second_few c = few _ c.in-Some-entry.second_body _ c.in-Some-entry.second c.in-Some-entry.is c.entry.ensures.1

pub returns-in_default : goal.returns-in_default
returns-in_default c =
    let s = c.args.book.now in
    let h = ends 2 u16 s _ (sym c.next_u16.ensures.0 ∙ c.in_default.is) in
    unlaid s (λ q. omega (arith, q.long, h, c.start-here.ensures))

pub returns-in_default-entry : goal.returns-in_default-entry
returns-in_default-entry c =
    let s = c.args.book.now in
    let f = counted (goal.at.returns-in_default-entry c).In-Some in
    unlaid s (λ q. missed s 1 4 2 32 (omega arith) (put s 1 4 _ 2 32 32 _ f.after (omega arith) (sym c.entry.ensures.0 ∙ c.in_default-entry.is)) q.long q.one)

pub entry-requires-2 : goal.entry-requires-2
entry-requires-2 c = (omega (arith, second_few (goal.at.entry-requires-2 c).In-Some-entry), omega arith)

pub returns-in_default-entry-2 : goal.returns-in_default-entry-2
returns-in_default-entry-2 c =
    let s = c.args.book.now in
    let f = one (goal.at.returns-in_default-entry-2 c).In-Some-entry (counted (goal.at.returns-in_default-entry-2 c).In-Some) in
    unlaid s (λ q. missed s 2 4 12 (32 + u32 s 8) (omega arith) (put s 2 4 _ 12 _ _ _ f.after f.ends (sym c.entry-2.ensures.0 ∙ c.in_default-entry-2.is)) q.long q.two)

pub entry-requires-3 : goal.entry-requires-3
entry-requires-3 c =
    let k = few _ c.in-Some-entry-2.third_body _ c.in-Some-entry-2.third c.in-Some-entry-2.is c.entry-2.ensures.1 in
    (omega (arith, k, second_few (goal.at.entry-requires-3 c).In-Some-entry), omega arith)

pub returns-in_default-entry-3 : goal.returns-in_default-entry-3
returns-in_default-entry-3 c =
    let s = c.args.book.now in
    let f = two (goal.at.returns-in_default-entry-3 c).In-Some-entry-2 (one (goal.at.returns-in_default-entry-3 c).In-Some-entry (counted (goal.at.returns-in_default-entry-3 c).In-Some)) in
    unlaid s (λ q. missed s 3 2 22 (32 + u32 s 8 + u32 s 18) (omega arith) (put s 3 2 _ 22 _ _ _ f.after f.ends (sym c.entry-3.ensures.0 ∙ c.in_default-entry-3.is)) q.long q.three)

pub returns : goal.returns
returns c =
    let s = c.args.book.now in
    let a = counted (goal.at.returns c).In-Some in
    let f = one (goal.at.returns c).In-Some-entry (counted (goal.at.returns c).In-Some) in
    let g = two (goal.at.returns c).In-Some-entry-2 (one (goal.at.returns c).In-Some-entry (counted (goal.at.returns c).In-Some)) in
    let h = enters s 22 3 (32 + u32 s 8 + u32 s 18) 2 _ _ (put s 3 2 _ 22 _ _ _ g.after g.ends (sym c.entry-3.ensures.0 ∙ c.in-Some-entry-3.is)) in
    ap₂ (λ (x y : ℕ). eqb x 3 && eqb y (length s)) a.is h.ends ∙ laid_by s h.there f.is g.is h.is
