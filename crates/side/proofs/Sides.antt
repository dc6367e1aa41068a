-- What a side beside its netlist gives every call. Assumes nothing.
use Rattle.std.specs.Prelude.{◌≡◌, true, false, List, ℕ, is_ok, Ok, Err}
use Rattle.book.specs.Checks.{read_of}
use Rattle.book.specs.Sound.{Sound}
pub use Rattle.book.proofs.Netlists.{sound_netlist}
use Rattle.book.proofs.Netlists.{reads_as}
use Rattle.book.specs.declared.Refusal.{Refusal}
use Rattle.book.specs.declared.Refusal.TheVariants.{Buffer, Side}
use Rattle.book.specs.declared.netlist.Netlist.{Netlist}
use Rattle.side.specs.declared.Sided.{Sided}
use Rattle.side.specs.Given.{Lent, is_short, is_good, given, given_sound}

pub lent : (s : Sided) → Lent s.netlist.bytes.now s.bits.now
lent s = record { sound = sound_netlist s.netlist; enough = s.enough }

-- what checks 1 to 6, 8 and 9 come to
module _ (s l : List ℕ) where
  pub given_good : is_ok (read_of s) ≡ true → is_short s l ≡ false → is_good s l ≡ true → given s l ≡ Ok tt
  unfolding given given_sound
  given_good e a g = let b = reads_as _ e in rw (b.1, a, g)

  pub given_unread : (why : Refusal) → read_of s ≡ Err why → given s l ≡ Err why
  unfolding given
  given_unread why e = rw e

  pub given_short : is_ok (read_of s) ≡ true → is_short s l ≡ true → given s l ≡ Err Buffer
  unfolding given given_sound
  given_short e a = let b = reads_as _ e in rw (b.1, a)

  pub given_bad : is_ok (read_of s) ≡ true → is_short s l ≡ false → is_good s l ≡ false → given s l ≡ Err Side
  unfolding given given_sound
  given_bad e a g = let b = reads_as _ e in rw (b.1, a, g)
