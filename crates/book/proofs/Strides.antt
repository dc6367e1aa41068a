-- What a step of a cursor tells: a number, that its bytes are there; the end, that they are not. Assumes nothing.
use Rattle.std.specs.Prelude.{Some, None}
use Prim.Native.Nat.{ℕ, ◌+◌, ◌%◌, ◌≤◌, ◌<◌}
use mathlib.Core.Path.{◌≡◌, refl, sym, ap, ◌∙◌}
use mathlib.Core.Bool.{Bool, true, false, ◌&&◌, and-eq-true_iff}
use mathlib.Core.List.{List}
use native.Mathlib.Omega.{arith}
use lib.ListN.{length}
use lib.Dec.{leb, eqb}
use borrow.Author.Tests.{leb-true, leb-false, le-leb, lt-leb}
use Rattle.book.specs.declared.Cursor.{Cursor}
use Rattle.book.specs.Format.{u16, u32, entry_is}
use Rattle.book.specs.Steps.{step_if, step_by, step_entry}

told : (b : Bool) (v n k : ℕ) (next : Cursor) → step_if b v k ≡ Some (n, next) → (b ≡ true) × (n ≡ v) × (next.at ≡ k)
told true v n k next e =
    let p : ◌≡◌ {A = ℕ × Cursor} (v, record { at = k }) (n, next) = cc in
    (refl, sym (ap (λ (q : ℕ × Cursor). q.0) p), sym (ap (λ (q : ℕ × Cursor). q.1.at) p))
told false v n k next e = let z : ◌≡◌ {A = ℕ} 0 1 = cc in absurd (omega arith)

stopped : (b : Bool) (v k : ℕ) → step_if b v k ≡ None → b ≡ false
stopped true v k e = let z : ◌≡◌ {A = ℕ} 0 1 = cc in absurd (omega arith)
stopped false v k e = refl

-- ---- over a number of w bytes at an offset of s

module _ (w : ℕ) (number : List ℕ → ℕ → ℕ) (s : List ℕ) (at : ℕ) where
  pub record Goes (n : ℕ) (next : Cursor) : Type 0 where
    pub there : at + w ≤ length s
    pub is : n ≡ number s at
    pub after : next.at ≡ at + w

  pub goes : (n : ℕ) (next : Cursor) → step_by w number s at ≡ Some (n, next) → Goes n next
  unfolding step_by
  goes n next e = let t = told (leb (at + w) (length s)) (number s at) n (at + w) next e in record { there = leb-true _ _ t.0; is = t.1; after = t.2 }

  pub ends : step_by w number s at ≡ None → length s < at + w
  unfolding step_by
  ends e = leb-false _ _ (stopped (leb (at + w) (length s)) (number s at) (at + w) e)

  -- and back
  pub does_go : (n : ℕ) (next : Cursor) → at + w ≤ length s → n ≡ number s at → next.at ≡ at + w → Some (n, next) ≡ step_by w number s at
  unfolding step_by
  does_go n next l e a = rw (le-leb _ _ l) (λ i. Some (e i, record { at = a i }))

  pub does_end : length s < at + w → None ≡ step_by w number s at
  unfolding step_by
  does_end l = rw (lt-leb _ _ l)

-- ---- over an entry of the contents, at an offset of s

module _ (s : List ℕ) (at : ℕ) where
  -- its three numbers, one step each
  pub record Got (kind start bytes : ℕ) (next : Cursor) : Type 0 where
    pub there : at + 10 ≤ length s
    pub kind_is : kind ≡ u16 s at
    pub start_is : start ≡ u32 s (at + 2)
    pub bytes_is : bytes ≡ u32 s (at + 6)
    pub after : next.at ≡ at + 10

  pub got : (k a b : ℕ) (c d e : Cursor) → Goes 2 u16 s at k c → Goes 4 u32 s c.at a d → Goes 4 u32 s d.at b e → Got k a b e
  got k a b c d e f g h = record {
    there = omega (arith, h.there, g.after, f.after);
    kind_is = f.is;
    start_is = g.is ∙ ap (u32 s) f.after;
    bytes_is = let l : d.at ≡ at + 6 = omega (arith, g.after, f.after) in h.is ∙ ap (u32 s) l;
    after = omega (arith, h.after, g.after, f.after);
  }

  module _ (kind start unit : ℕ) where
    pub does_enter : (k a b : ℕ) (next : Cursor) → Got k a b next → (eqb k kind && eqb a start && eqb (b % unit) 0) ≡ true →
        Some (start + b, next) ≡ step_entry s at kind start unit
    unfolding step_entry entry_is
    does_enter k a b next g t =
        let e : (eqb (u16 s at) kind && eqb (u32 s (at + 2)) start && eqb (u32 s (at + 6) % unit) 0) ≡ true = rw (g.kind_is, g.start_is, g.bytes_is) at t in
        rw (le-leb _ _ g.there, e) (λ i. Some (start + g.bytes_is i, record { at = g.after i }))

    pub does_refuse : (k a b : ℕ) (next : Cursor) → Got k a b next → (eqb k kind && eqb a start && eqb (b % unit) 0) ≡ false →
        None ≡ step_entry s at kind start unit
    unfolding step_entry entry_is
    does_refuse k a b next g t =
        let e : (eqb (u16 s at) kind && eqb (u32 s (at + 2)) start && eqb (u32 s (at + 6) % unit) 0) ≡ false = rw (g.kind_is, g.start_is, g.bytes_is) at t in
        rw (le-leb _ _ g.there, e)

    pub cut_short : length s < at + 10 → None ≡ step_entry s at kind start unit
    unfolding step_entry
    cut_short l = rw (lt-leb _ _ l)

    -- what it tells
    pub record Enters (end : ℕ) (next : Cursor) : Type 0 where
      pub there : at + 10 ≤ length s
      pub is : entry_is s at kind start unit ≡ true
      pub ends : end ≡ start + u32 s (at + 6)
      pub after : next.at ≡ at + 10

    pub enters : (end : ℕ) (next : Cursor) → step_entry s at kind start unit ≡ Some (end, next) → Enters end next
    unfolding step_entry
    enters end next e =
        let t = told (leb (at + 10) (length s) && entry_is s at kind start unit) (start + u32 s (at + 6)) end (at + 10) next e in
        let p = (and-eq-true_iff (leb (at + 10) (length s)) (entry_is s at kind start unit)).0 t.0 in
        record { there = leb-true _ _ p.0; is = p.1; ends = t.1; after = t.2 }

    pub refuses : step_entry s at kind start unit ≡ None → at + 10 ≤ length s → entry_is s at kind start unit ≡ false
    unfolding step_entry
    refuses e l =
        let t = stopped (leb (at + 10) (length s) && entry_is s at kind start unit) (start + u32 s (at + 6)) (at + 10) e in
        rw (le-leb _ _ l) at t
