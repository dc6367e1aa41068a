-- The numbers of a sound book fit the engine's slices. Assumes nothing.
use Rattle.std.specs.Prelude.{◌≡◌, ℕ, ◌≤◌, List}
use mathlib.Core.Path.{refl}
use native.Mathlib.Omega.{arith}
use Rattle.book.specs.Format.{modules, nets, pins, first_pin}
use Rattle.book.specs.Checks.{most_modules, most_nets, most_pins}
use Rattle.book.specs.Sound.{Sound}
use Rattle.book.specs.declared.netlist.Netlist.{Netlist}
pub use Rattle.book.proofs.Netlists.{sound_netlist}
use Rattle.book.proofs.CardLaws.{first_pin_mono}

pub few_modules : (n : Netlist) → modules n.bytes.now ≤ most_modules
few_modules n = (sound_netlist n).few_modules

pub few_nets : (n : Netlist) → nets n.bytes.now ≤ most_nets
few_nets n = (sound_netlist n).few_nets

pub few_pins : (n : Netlist) → pins n.bytes.now ≤ most_pins
few_pins n = (sound_netlist n).few_pins

pub first-zero : (s : List ℕ) → 0 ≡ first_pin s 0
unfolding first_pin
first-zero s = refl

-- no net's pins begin after the last pin
pub first_most : (s : List ℕ) → Sound s → (n : ℕ) → n ≤ nets s → first_pin s n ≤ pins s
first_most s h n l = omega (arith, first_pin_mono s n (nets s) l, h.pins_all)
