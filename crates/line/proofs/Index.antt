-- What holds of each net and its numbers (`EachNet`, `EachBy`) holds of net e and the numbers that stand where its pins begin, and back; prices and sums grow by one net,
-- pin or number as a loop goes. Assumes nothing.
use mathlib.Core.Path.{◌≡◌, refl, sym}
use mathlib.Core.List.{List, [], ◌∷◌, ◌++◌}
use Prim.Native.Nat.{ℕ, zero, suc, ◌+◌, ◌≤◌, ◌<◌}
use native.Mathlib.Omega.{arith}
use native.Mathlib.Nat.{le_of_suc-le-suc, not-suc-le-zero, zero-add, add_assoc}
use lib.IntN.{ℤ, pos}
use lib.ListN.{length, take, drop, get_or, length-append, get_or-append}
use lib.Seq.{drop-drop, get_or-append-add, take-suc}
use mathlib.Core.Bool.{◌||◌, or-false, or_assoc}
use Rattle.line.specs.Card.{Net, Side, touches, cost, price, all_pins}
use Rattle.line.specs.Flow.{EachNet, sent, total_sent}
use Rattle.line.proofs.Ways.{EachBy}

abbrev pub no_net : Net
no_net = record { weight = 0; pins = [] }

abbrev pub net_at : List Net → ℕ → Net
net_at ns e = get_or ns e no_net

-- how many pins the nets before net e have
unfoldable pub start : List Net → ℕ → ℕ
start ns zero = 0
start [] (suc e) = 0
start (n ∷ ns) (suc e) = length n.pins + start ns e

-- the numbers of net e
abbrev pub numbers : List Net → List ℤ → ℕ → List ℤ
numbers ns xs e = take (length (net_at ns e).pins) (drop (start ns e) xs)

pub each_at : (P : Net → List ℤ → Type 0) (ns : List Net) (xs : List ℤ) → EachNet P ns xs → (e : ℕ) → e < length ns → P (net_at ns e) (numbers ns xs e)
unfolding EachNet start
each_at P [] xs h e l = absurd (not-suc-le-zero l)
each_at P (n ∷ ns) xs h zero l = h.0
each_at P (n ∷ ns) xs h (suc e) l = rw (← (drop-drop (start ns e) (length n.pins) xs)) (each_at P ns (drop (length n.pins) xs) h.1 e (le_of_suc-le-suc l))

pub each_from : (P : Net → List ℤ → Type 0) (ns : List Net) (xs : List ℤ) → ((e : ℕ) → e < length ns → P (net_at ns e) (numbers ns xs e)) → EachNet P ns xs
unfolding EachNet start
each_from P [] xs h = tt
each_from P (n ∷ ns) xs h = (
  h 0 (omega arith),
  each_from P ns (drop (length n.pins) xs) (λ e l. rw (drop-drop (start ns e) (length n.pins) xs) (h (suc e) (omega arith))),
)

-- the same where P knows the net's number
pub each_by_at : (P : ℕ → Net → List ℤ → Type 0) (ns : List Net) (xs : List ℤ) → EachBy P ns xs → (e : ℕ) → e < length ns → P e (net_at ns e) (numbers ns xs e)
unfolding EachBy start
each_by_at P [] xs h e l = absurd (not-suc-le-zero l)
each_by_at P (n ∷ ns) xs h zero l = h.0
each_by_at P (n ∷ ns) xs h (suc e) l =
    rw (← (drop-drop (start ns e) (length n.pins) xs)) (each_by_at (λ k. P (suc k)) ns (drop (length n.pins) xs) h.1 e (le_of_suc-le-suc l))

pub each_by_from : (P : ℕ → Net → List ℤ → Type 0) (ns : List Net) (xs : List ℤ) → ((e : ℕ) → e < length ns → P e (net_at ns e) (numbers ns xs e)) → EachBy P ns xs
unfolding EachBy start
each_by_from P [] xs h = tt
each_by_from P (n ∷ ns) xs h = (
  h 0 (omega arith),
  each_by_from (λ k. P (suc k)) ns (drop (length n.pins) xs) (λ e l. rw (drop-drop (start ns e) (length n.pins) xs) (h (suc e) (omega arith))),
)

-- pin i of net e among all pins
pub pin_at : (ns : List Net) (e : ℕ) → e < length ns → (i : ℕ) → i < length (net_at ns e).pins → get_or (all_pins ns) (start ns e + i) 0 ≡ get_or (net_at ns e).pins i 0
unfolding start all_pins
pin_at [] e l i k = absurd (not-suc-le-zero l)
pin_at (n ∷ ns) zero l i k = rw (zero-add i) (get_or-append n.pins (all_pins ns) 0 i k)
pin_at (n ∷ ns) (suc e) l i k =
    rw (add_assoc (length n.pins) (start ns e) i, get_or-append-add n.pins (all_pins ns) (start ns e + i) 0) (pin_at ns e (le_of_suc-le-suc l) i k)

pub start_in : (ns : List Net) (e : ℕ) → e < length ns → start ns e + length (net_at ns e).pins ≤ length (all_pins ns)
unfolding start all_pins
start_in [] e l = absurd (not-suc-le-zero l)
start_in (n ∷ ns) zero l = omega (arith, length-append n.pins (all_pins ns))
start_in (n ∷ ns) (suc e) l = omega (arith, length-append n.pins (all_pins ns), start_in ns e (le_of_suc-le-suc l))

pub start-suc : (ns : List Net) (e : ℕ) → e < length ns → start ns (suc e) ≡ start ns e + length (net_at ns e).pins
unfolding start
start-suc [] e l = absurd (not-suc-le-zero l)
start-suc (n ∷ ns) zero l = omega arith
start-suc (n ∷ ns) (suc e) l = omega (arith, start-suc ns e (le_of_suc-le-suc l))

-- as many pins as come before the end
pub start_all : (ns : List Net) → start ns (length ns) ≡ length (all_pins ns)
unfolding start all_pins
start_all [] = refl
start_all (n ∷ ns) = omega (arith, start_all ns, length-append n.pins (all_pins ns))

pub start_mono : (ns : List Net) (e k : ℕ) → e < k → k < length ns → start ns e + length (net_at ns e).pins ≤ start ns k
unfolding start
start_mono [] e k l h = absurd (not-suc-le-zero h)
start_mono (n ∷ ns) e zero l h = absurd (not-suc-le-zero l)
start_mono (n ∷ ns) zero (suc k) l h = omega arith
start_mono (n ∷ ns) (suc e) (suc k) l h = omega (arith, start_mono ns e k (le_of_suc-le-suc l) (le_of_suc-le-suc h))

pub price-append : (ns ms : List Net) (s : Side) → price (ns ++ ms) s ≡ price ns s + price ms s
unfolding price
price-append [] ms s = omega arith
price-append (n ∷ ns) ms s = omega (arith, price-append ns ms s)

-- one net more, as a loop goes
pub price-suc : (ns : List Net) (s : Side) (e : ℕ) → e < length ns → price (take (suc e) ns) s ≡ price (take e ns) s + cost s (net_at ns e)
unfolding price
price-suc ns s e l = rw (take-suc ns e no_net) (omega (arith, price-append (take e ns) (net_at ns e ∷ []) s))

-- one number more
pub total_sent-suc : (xs : List ℤ) (i : ℕ) → i < length xs → total_sent (take (suc i) xs) ≡ total_sent (take i xs) + sent (get_or xs i (pos 0))
unfolding total_sent
total_sent-suc [] i l = absurd (not-suc-le-zero l)
total_sent-suc (x ∷ xs) zero l = omega arith
total_sent-suc (x ∷ xs) (suc i) l = omega (arith, total_sent-suc xs i (le_of_suc-le-suc l))

-- one pin more
pub touches-suc : (s : Side) (ps : List ℕ) (i : ℕ) → i < length ps → touches s (take (suc i) ps) ≡ (touches s (take i ps) || s (get_or ps i 0))
unfolding touches
touches-suc s [] i l = absurd (not-suc-le-zero l)
touches-suc s (p ∷ ps) zero l = or-false (s p)
touches-suc s (p ∷ ps) (suc i) l = rw (touches-suc s ps i (le_of_suc-le-suc l)) (sym (or_assoc (s p) (touches s (take i ps)) (s (get_or ps i 0))))
