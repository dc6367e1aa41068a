use Rattle.std.specs.Prelude.{Option, Some}
use Prim.Native.Nat.{ℕ, ◌<◌}
use native.Mathlib.Omega.{arith}
use mathlib.Core.Path.{◌≡◌, sym, ◌∙◌}
use Rattle.book.specs.Format.{u16, u32}
use Rattle.book.specs.Steps.{number_in}
use Rattle.book.specs.declared.Cursor.{Cursor}
use Rattle.book.proofs.Strides.{Goes, goes, ends, Got, got, does_enter, does_refuse, cut_short}
use Rattle.book.proofs.checks.entry.Goals as goal
use Rattle.book.proofs.checks.entry.Goals.{In_ok-k, In_ok-at, In_ok-bytes}

-- what each step that has gone tells
first : (c : In_ok-k) →
    Goes 2 u16 c.args.book.now c.args.here.at c.in_ok-k.k c.in_ok-k.c
first c = goes 2 u16 _ _ _ _ (sym c.next_u16.ensures.0 ∙ c.in_ok-k.was)

second : (c : In_ok-at) →
    Goes 4 u32 c.args.book.now c.in_ok-k.c.at c.in_ok-at.at c.in_ok-at.d
second c = goes 4 u32 _ _ _ _ (sym c.next_u32.ensures.0 ∙ c.in_ok-at.was)

whole : (c : In_ok-bytes) →
    Goes 2 u16 c.args.book.now c.args.here.at c.in_ok-k.k c.in_ok-k.c →
    Goes 4 u32 c.args.book.now c.in_ok-k.c.at c.in_ok-at.at c.in_ok-at.d →
    Got c.args.book.now c.args.here.at
    c.in_ok-k.k c.in_ok-at.at c.in_ok-bytes.bytes c.in_ok-bytes.next
whole c f g =
    got _ _ _ _ _ _ _ _ f g
    (goes 4 u32 _ _ _ _ (sym c.next_u32-2.ensures.0 ∙ c.in_ok-bytes.was))

-- a step's number is as small as its contract says
small : (r : Option (ℕ × Cursor)) (n : ℕ) (d : Cursor) → r ≡ Some (n, d) → number_in r < 4294967296 → n < 4294967296
small r n d e l = rw e at l

few : (c : In_ok-bytes) → c.in_ok-bytes.bytes < 4294967296
few c = small _ c.in_ok-bytes.bytes c.in_ok-bytes.next c.in_ok-bytes.was c.next_u32-2.ensures.1

pub returns-in_err-k : goal.returns-in_err-k
returns-in_err-k c =
    let a = c.args in
    let h = ends 2 u16 a.book.now a.here.at (sym c.next_u16.ensures.0 ∙ c.in_err-k.was) in
    rw c.from_residual.ensures (cut_short a.book.now a.here.at a.kind a.start a.unit (omega arith), omega arith)

pub returns-in_err-at : goal.returns-in_err-at
returns-in_err-at c =
    let a = c.args in
    let g = first (goal.at.returns-in_err-at c).In_ok-k in
    let h = ends 4 u32 a.book.now c.in_ok-k.c.at (sym c.next_u32.ensures.0 ∙ c.in_err-at.was) in
    rw c.from_residual-in_err-at.ensures (cut_short a.book.now a.here.at a.kind a.start a.unit (omega (arith, g.after)), omega arith)

pub returns-in_err-bytes : goal.returns-in_err-bytes
returns-in_err-bytes c =
    let a = c.args in
    let g = first (goal.at.returns-in_err-bytes c).In_ok-k in
    let i = second (goal.at.returns-in_err-bytes c).In_ok-at in
    let h = ends 4 u32 a.book.now c.in_ok-at.d.at (sym c.next_u32-2.ensures.0 ∙ c.in_err-bytes.was) in
    rw c.from_residual-in_err-bytes.ensures (cut_short a.book.now a.here.at a.kind a.start a.unit (omega (arith, g.after, i.after)), omega arith)

pub overflow_add-result : goal.overflow_add-result
overflow_add-result c = omega (arith, few (goal.at.overflow_add-result c).In_ok-bytes)

pub returns-then-k-kind : goal.returns-then-k-kind
returns-then-k-kind c =
    let a = c.args in
    (does_enter a.book.now a.here.at a.kind a.start a.unit _ _ _ _ (whole (goal.at.returns-then-k-kind c).In_ok-bytes (first (goal.at.returns-then-k-kind c).In_ok-k) (second (goal.at.returns-then-k-kind c).In_ok-at)) c.if-k-kind.true, omega (arith, few (goal.at.returns-then-k-kind c).In_ok-bytes))

pub returns : goal.returns
returns c =
    let a = c.args in
    (does_refuse a.book.now a.here.at a.kind a.start a.unit _ _ _ _ (whole (goal.at.returns c).In_ok-bytes (first (goal.at.returns c).In_ok-k) (second (goal.at.returns c).In_ok-at)) c.if-k-kind.false, omega arith)
