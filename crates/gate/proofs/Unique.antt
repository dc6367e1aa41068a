-- Any two results that a contract of `gate` allows are one. Assumes nothing.
use mathlib.Core.Path.{◌≡◌, sym, ◌∙◌}
use mathlib.Core.Bool.{Bool}
use Prim.Native.Nat.{ℕ}
use Rattle.gate.specs.Gates.{good_gate, band_of, band_says}
use Rattle.gate.specs.declared.Gate.{Gate}
use Rattle.gate.specs.declared.Band.{Band}
use Rattle.gate.specs.declared.Verdict.{Verdict}

pub one_good : (g : Gate) (r q : Bool) → r ≡ good_gate g → q ≡ good_gate g → r ≡ q
one_good g r q h k = h ∙ sym k

pub one_band : (g : Gate) (w : ℕ) (b c : Band) → b ≡ band_of g w → c ≡ band_of g w → b ≡ c
one_band g w b c h k = h ∙ sym k

pub one_verdict : (b : Band) (area : ℕ) (u v : Verdict) → u ≡ band_says b area → v ≡ band_says b area → u ≡ v
one_verdict b area u v h k = h ∙ sym k
