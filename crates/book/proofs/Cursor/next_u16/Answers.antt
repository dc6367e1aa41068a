use borrow.Author.Rules.{rules}
use Prim.Native.Nat.{◌+◌, ◌*◌}
use native.Mathlib.Omega.{arith}
use mathlib.Core.Path.{◌≡◌, refl}
use Rattle.book.specs.Format.{u16}
use Rattle.book.proofs.Strides.{does_go, does_end}
use Rattle.book.proofs.Cursor.next_u16.Goals as goal

pub returns-then-len-lt2 : goal.returns-then-len-lt2
returns-then-len-lt2 c = let a = c.args in (does_end 2 u16 a.book.now a.self.at (omega arith), omega arith)

pub returns-then-len-at : goal.returns-then-len-at
returns-then-len-at c = let a = c.args in (does_end 2 u16 a.book.now a.self.at (omega arith), omega arith)

pub returns : goal.returns
unfolding u16
returns c =
    let a = c.args in
    let e : c.from.result + 256 * c.from-2.result ≡ u16 a.book.now a.self.at = search rules in
    (does_go 2 u16 a.book.now a.self.at _ (record { at = a.self.at + 2 }) (omega arith) e refl, omega arith)
