-- What a flow beside its netlist gives every call. Assumes nothing.
use Rattle.std.specs.Prelude.{◌≡◌, List, ℕ, ℤ, true, false, Err}
use Rattle.book.specs.declared.Refusal.TheVariants.{Buffer, Side}
pub use Rattle.book.proofs.Netlists.{sound_netlist}
use Rattle.audit.specs.declared.Flowed.{Flowed}
use Rattle.audit.specs.Rules.{LentFlow}
use Rattle.side.specs.Given.{is_short, is_good}
use Rattle.audit.specs.Checker.{is_short_flow, checked_good, checked_sound}

pub lent_flow : (f : Flowed) → LentFlow f.netlist.bytes.now f.flow.now
lent_flow f = record { sound = sound_netlist f.netlist; enough = f.enough }

-- what checks 8 and 9 come to
module _ (s l : List ℕ) (xs : List ℤ) (claim : ℕ) where
  pub short_flow : is_short_flow s xs ≡ true → Err Buffer ≡ checked_sound s l xs claim
  unfolding checked_sound
  short_flow a = rw a

  pub short_side : is_short_flow s xs ≡ false → is_short s l ≡ true → Err Buffer ≡ checked_sound s l xs claim
  unfolding checked_sound
  short_side a b = rw (a, b)

  pub bad_side : is_short_flow s xs ≡ false → is_short s l ≡ false → is_good s l ≡ false → Err Side ≡ checked_sound s l xs claim
  unfolding checked_sound
  bad_side a b g = rw (a, b, g)

  pub both_good : is_short_flow s xs ≡ false → is_short s l ≡ false → is_good s l ≡ true → checked_good s l xs claim ≡ checked_sound s l xs claim
  unfolding checked_sound
  both_good a b g = rw (a, b, g)
