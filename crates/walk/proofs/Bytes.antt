-- Rows as bytes, written one number after another (`row-bytes`), and the bytes of a number as the library makes them (`two_bytes`, `four_bytes`). Assumes nothing.
use Rattle.std.specs.Prelude.{◌≡◌, ℕ, ◌+◌, ◌/◌, ◌%◌, ◌^◌, ◌≤◌, List, [], ◌∷◌, ◌++◌, length}
use Rattle.std.specs.Int.{w16, w32, to_le_bytes}
use mathlib.Core.Path.{ap, ◌∙◌}
use native.Mathlib.Omega.{arith}
use Rattle.book.proofs.Pasted.{paste_then}
use Rattle.walk.specs.Walk.{Row, taken_of, way_of}
use Rattle.walk.specs.Call.{little_endian, row_bytes}
use Rattle.walk.specs.Parts.{over_at}

pub two_bytes : (n : ℕ) → to_le_bytes w16 n ≡ little_endian 2 n
unfolding little_endian
two_bytes n =
    let a : n / 256 ^ 1 ≡ n / 256 = omega arith in
    λ i. n % 256 ∷ a i % 256 ∷ []

pub four_bytes : (n : ℕ) → to_le_bytes w32 n ≡ little_endian 4 n
unfolding little_endian
four_bytes n =
    let a : n / 256 ^ 1 ≡ n / 256 = omega arith in
    let b : n / 256 ^ 2 ≡ n / 256 / 256 = omega arith in
    let c : n / 256 ^ 3 ≡ n / 256 / 256 / 256 = omega arith in
    λ i. n % 256 ∷ a i % 256 ∷ b i % 256 ∷ c i % 256 ∷ []

pub row-bytes : (l a b c d : List ℕ) (at : ℕ) (r : Row) → at + 12 ≤ length l → a ≡ over_at at (little_endian 4 r.price) l → b ≡ over_at (at + 4) (little_endian 4 r.area) a →
    c ≡ over_at (at + 8) (little_endian 2 (taken_of r.turn)) b → d ≡ over_at (at + 10) (little_endian 2 (way_of r.turn)) c → d ≡ over_at at (row_bytes r) l
unfolding row_bytes little_endian
row-bytes l a b c d at r h p q u v =
    let P = little_endian 4 r.price in
    let A = little_endian 4 r.area in
    let M = little_endian 2 (taken_of r.turn) in
    let W = little_endian 2 (way_of r.turn) in
    let x : b ≡ over_at at (P ++ A) l = q ∙ ap (over_at (at + 4) A) p ∙ paste_then at P A l (omega arith) in
    let y : c ≡ over_at at (P ++ A ++ M) l = u ∙ ap (over_at (at + 8) M) x ∙ paste_then at (P ++ A) M l (omega arith) in
    v ∙ ap (over_at (at + 10) W) y ∙ paste_then at (P ++ A ++ M) W l (omega arith)
