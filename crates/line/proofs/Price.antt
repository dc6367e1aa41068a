-- The price of a side is submodular, and depends on the side at the pins alone. From the laws by ways. Assumes nothing.
use mathlib.Core.Path.{◌≡◌, sym, ◌∙◌}
use mathlib.Core.Bool.{true}
use mathlib.Core.List.{List, Memᴰ}
use Prim.Native.Nat.{ℕ, ◌+◌, ◌≤◌}
use native.Mathlib.Omega.{arith}
use Rattle.line.specs.Card.{Net, Side, both, either, touches, price, all_pins}
use Rattle.line.proofs.Ways.{plainly}
use Rattle.line.proofs.WayPrice.{meets_same, meets_touches, submodular_by, price_by_same, price_plain}

-- the price of what two sides both hold and that of what either holds add to at most the prices of the two
pub submodular : (ns : List Net) (s t : Side) → price ns (both s t) + price ns (either s t) ≤ price ns s + price ns t
submodular ns s t =
    omega (arith, submodular_by plainly ns s t, price_plain ns s, price_plain ns t, price_plain ns (both s t), price_plain ns (either s t))

pub touches_same : (s t : Side) (ps : List ℕ) → ((m : ℕ) → Memᴰ m ps → s m ≡ t m) → touches s ps ≡ touches t ps
touches_same s t ps f = sym (meets_touches s ps) ∙ meets_same (λ i. true) s t ps f ∙ meets_touches t ps

pub price_same : (ns : List Net) (s t : Side) → ((m : ℕ) → Memᴰ m (all_pins ns) → s m ≡ t m) → price ns s ≡ price ns t
price_same ns s t f = omega (arith, price_by_same plainly ns s t f, price_plain ns s, price_plain ns t)
