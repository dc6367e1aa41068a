-- What an engine needs around a search that goes by net and pin numbers: a side that no open step leaves is closed, zeros are a fair flow, no number passes its net's
-- weight, and steps of one search tree are apart. Assumes nothing.
use mathlib.Core.Path.{◌≡◌, refl, sym, ap, ◌∙◌}
use mathlib.Core.Logic.{◌≢◌}
use mathlib.Core.Bool.{Bool, true, false, not, cond}
use mathlib.Core.List.{List, [], ◌∷◌}
use Prim.Native.Nat.{ℕ, zero, suc, ◌≤◌, ◌<◌}
use native.Mathlib.Omega.{arith}
use lib.IntN.{ℤ, pos, ◌+ℤ◌}
use lib.ListN.{length, take, drop, get_or, replicate}
use lib.Dec.{T}
use Rattle.line.specs.Card.{Net, Card, Side, all_pins}
use Rattle.line.specs.Flow.{sent, taken, total, total_sent, flow_at, NetRule, only}
use Rattle.line.proofs.Ways.{Ways, NetRoles, FairBy, PassesBy, NetKeepsBy, ClosedBy}
use Rattle.line.proofs.Sums.{sum, sum_sent, total_diff}
use Rattle.line.proofs.Index.{net_at, start, numbers, each_from, each_by_at, each_by_from}
use Rattle.line.proofs.Path.{Step, pin_of, tail, head, Apart}

-- ---- the flow of zeros

unfoldable pub Still : List ℤ → Type 0
Still [] = Unit {0}
Still (x ∷ xs) = (x ≡ pos 0) × Still xs

pub still_replicate : (k : ℕ) → Still (replicate k (pos 0))
unfolding Still
still_replicate zero = tt
still_replicate (suc k) = (refl, still_replicate k)

still_take : (k : ℕ) (xs : List ℤ) → Still xs → Still (take k xs)
unfolding Still
still_take zero xs h = tt
still_take (suc k) [] h = tt
still_take (suc k) (x ∷ xs) h = (h.0, still_take k xs h.1)

still_drop : (k : ℕ) (xs : List ℤ) → Still xs → Still (drop k xs)
unfolding Still
still_drop zero xs h = h
still_drop (suc k) [] h = tt
still_drop (suc k) (x ∷ xs) h = still_drop k xs h.1

still_total : (xs : List ℤ) → Still xs → total xs ≡ pos 0
unfolding Still total
still_total [] h = refl
still_total (x ∷ xs) h = rw (h.0, still_total xs h.1)

still_sent : (xs : List ℤ) → Still xs → total_sent xs ≡ 0
unfolding Still total_sent
still_sent [] h = refl
still_sent (x ∷ xs) h = omega (arith, ap sent h.0, still_sent xs h.1)

still_at : (xs : List ℤ) → Still xs → (i : ℕ) → get_or xs i (pos 0) ≡ pos 0
unfolding Still
still_at [] h i = refl
still_at (x ∷ xs) h zero = h.0
still_at (x ∷ xs) h (suc i) = still_at xs h.1 i

still_flow : (s : Side) (ps : List ℕ) (xs : List ℤ) → Still xs → flow_at s ps xs ≡ pos 0
unfolding Still flow_at
still_flow s [] xs h = refl
still_flow s (p ∷ ps) [] h = refl
still_flow s (p ∷ ps) (x ∷ xs) h = rw (h.0, still_flow s ps xs h.1) (go (s p))
  where
    go : (b : Bool) → cond b (pos 0) (pos 0) +ℤ pos 0 ≡ pos 0
    go true = refl
    go false = refl

module _ (w : Ways) (c : Card) (xs : List ℤ) (z : Still xs) where
  still_numbers : (e : ℕ) → Still (numbers c.nets xs e)
  still_numbers e = still_take (length (net_at c.nets e).pins) (drop (start c.nets e) xs) (still_drop (start c.nets e) xs z)

  pub still_fair : FairBy w c xs
  still_fair = record {
    fair = record {
      nets = each_from NetRule c.nets xs (λ e l. record { zero = still_total (numbers c.nets xs e) (still_numbers e); fits = omega (arith, still_sent (numbers c.nets xs e) (still_numbers e)) });
      modules = λ m l e. still_flow (only m) (all_pins c.nets) xs z;
    };
    roles =
        each_by_from (λ e. NetRoles (w.sends e) (w.takes e)) c.nets xs
        (λ e l. record {
          sends = λ i h. absurd (omega (arith, h, ap sent (still_at (numbers c.nets xs e) (still_numbers e) i)));
          takes = λ i h. absurd (omega (arith, h, ap taken (still_at (numbers c.nets xs e) (still_numbers e) i)));
        });
  }

-- ---- no number of a net is above its weight, nor below its opposite

at_sum : (f : ℤ → ℕ) → f (pos 0) ≡ 0 → (xs : List ℤ) (i : ℕ) → f (get_or xs i (pos 0)) ≤ sum f xs
unfolding sum
at_sum f z [] i = omega (arith, z)
at_sum f z (x ∷ xs) zero = omega arith
at_sum f z (x ∷ xs) (suc i) = omega (arith, at_sum f z xs i)

pub number_sent : (n : Net) (ys : List ℤ) → NetRule n ys → (i : ℕ) → sent (get_or ys i (pos 0)) ≤ n.weight
number_sent n ys r i = omega (arith, at_sum sent refl ys i, sum_sent ys, r.fits)

pub number_taken : (n : Net) (ys : List ℤ) → NetRule n ys → (i : ℕ) → taken (get_or ys i (pos 0)) ≤ n.weight
number_taken n ys r i = omega (arith, at_sum taken refl ys i, total_diff ys, sum_sent ys, r.fits, ap sent r.zero, ap taken r.zero)

-- ---- a search: steps by number

module _ (w : Ways) (c : Card) (xs : List ℤ) where
  -- one more can pass in net e from pin a to pin b
  abbrev pub Open : ℕ → ℕ → ℕ → Type 0
  Open e a b = PassesBy (w.sends e) (w.takes e) (net_at c.nets e) (numbers c.nets xs e) a b 1

  abbrev pub Forth : Side → Type 0
  Forth s = (e a b : ℕ) → e < length c.nets → a < length (net_at c.nets e).pins → b < length (net_at c.nets e).pins → T (s (pin_of c e a)) → Open e a b → T (s (pin_of c e b))

  pub forth_closed : (s : Side) → Forth s → ClosedBy w c s xs
  forth_closed s f = each_by_from (λ e. NetKeepsBy (w.sends e) (w.takes e) s) c.nets xs (λ e l a b la lb. f e a b l la lb)

  pub closed_forth : (s : Side) → ClosedBy w c s xs → Forth s
  closed_forth s k e a b l la lb = each_by_at (λ e. NetKeepsBy (w.sends e) (w.takes e) s) c.nets xs k e l a b la lb

-- ---- steps of one search tree: each module is entered once and left once, and the room of a net is used from one pin alone

pub tree_apart : (c : Card) (opener : ℕ → ℕ) (t u : Step) → tail c t ≢ tail c u → head c t ≢ head c u →
    (T (not t.undo_a) → T (not t.undo_b) → t.a ≡ opener t.net) → (T (not u.undo_a) → T (not u.undo_b) → u.a ≡ opener u.net) → Apart t u
tree_apart c opener t u nt nh ot ou = record {
  left = λ e q. nt (same e q);
  entered = λ e q. nh (same e q);
  rooms = λ e x y x' y'. nt (same e (ot x y ∙ ap opener e ∙ sym (ou x' y')));
}
  where
    same : {e k i j : ℕ} → e ≡ k → i ≡ j → pin_of c e i ≡ pin_of c k j
    same p q = rw (p, q)
