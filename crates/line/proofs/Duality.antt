-- Flows against sides: the value of a fair flow is at most the price of a side that separates, and is that price exactly where the side is closed. So the least
-- closed side over the meters is the near side, and the largest without a maker the far side. The laws of `WayFlow` by `plainly`. Assumes nothing.
use mathlib.Core.Path.{◌≡◌, sym, ap, ◌∙◌}
use mathlib.Core.Bool.{true, not}
use mathlib.Core.List.{List}
use Prim.Native.Nat.{ℕ, ◌<◌}
use lib.IntN.{ℤ, pos}
use lib.Signed.{◌≤ℤ◌}
use lib.Dec.{T}
use Rattle.line.specs.Card.{Card, Side, price, Separates, Inside, Near, Far}
use Rattle.line.specs.Flow.{Fair, value}
use Rattle.line.proofs.Ways.{plainly, NetRoles, FairBy, NetKeepsBy, ClosedBy}
use Rattle.line.proofs.WayPrice.{price_plain}
use Rattle.line.proofs.Cheap.{near_plain, far_plain}
use Rattle.line.proofs.Index.{net_at, numbers, each_at, each_from, each_by_at, each_by_from}
use Rattle.line.proofs.Steps.{NetKeeps, Closed, passes_plain, plain_passes}
use Rattle.line.proofs.WayFlow
pub use Rattle.line.proofs.WayFlow.{Valid}

-- ---- the page's words and those by plainly

pub fair_plain : (c : Card) (xs : List ℤ) → Fair c xs → FairBy plainly c xs
fair_plain c xs f = record {
  fair = f;
  roles = each_by_from (λ e. NetRoles (λ i. true) (λ i. true)) c.nets xs (λ e l. record { sends = λ i h. tt; takes = λ i h. tt });
}

module _ (c : Card) (s : Side) (xs : List ℤ) where
  pub plain_closed : Closed c s xs → ClosedBy plainly c s xs
  plain_closed k =
      each_by_from (λ e. NetKeepsBy (λ i. true) (λ i. true) s) c.nets xs
      (λ e l a b la lb t p. each_at (NetKeeps s) c.nets xs k e l a b la lb t (passes_plain (net_at c.nets e) (numbers c.nets xs e) a b p))

  pub closed_plain : ClosedBy plainly c s xs → Closed c s xs
  closed_plain k =
      each_from (NetKeeps s) c.nets xs
      (λ e l a b la lb t p. each_by_at (λ e. NetKeepsBy (λ i. true) (λ i. true) s) c.nets xs k e l a b la lb t (plain_passes (net_at c.nets e) (numbers c.nets xs e) a b p))

-- ---- the laws

module _ (c : Card) (valid : Valid c) (xs : List ℤ) (fair : Fair c xs) where
  -- weak duality
  pub weak_duality : (s : Side) → Separates c s → value c xs ≤ℤ pos (price c.nets s)
  weak_duality s p = rw (price_plain c.nets s) at (WayFlow.weak_duality plainly c valid xs (fair_plain c xs fair) s p)

  -- the price of a closed side that separates is the value
  pub closed_price : (s : Side) → Separates c s → Closed c s xs → value c xs ≡ pos (price c.nets s)
  closed_price s p k = WayFlow.closed_price plainly c valid xs (fair_plain c xs fair) s p (plain_closed c s xs k) ∙ ap pos (price_plain c.nets s)

  -- a side that separates and whose price is the value is closed
  pub price_closed : (s : Side) → Separates c s → value c xs ≡ pos (price c.nets s) → Closed c s xs
  price_closed s p e = closed_plain c s xs (WayFlow.price_closed plainly c valid xs (fair_plain c xs fair) s p (e ∙ sym (ap pos (price_plain c.nets s))))

  module _ (s : Side) (p : Separates c s) (k : Closed c s xs) where
    -- the least closed side over the meters is the near side
    pub closed_near : ((t : Side) → ((m : ℕ) → m < c.modules → c.mark m ≡ 1 → T (t m)) → Closed c t xs → Inside c s t) → Near c s
    closed_near h =
        near_plain c s (WayFlow.closed_near plainly c valid xs (fair_plain c xs fair) s p (plain_closed c s xs k) (λ t m q. h t m (closed_plain c t xs q)))

    -- the largest closed side without a maker is the far side
    pub closed_far : ((t : Side) → ((m : ℕ) → m < c.modules → c.mark m ≡ 2 → T (not (t m))) → Closed c t xs → Inside c t s) → Far c s
    closed_far h =
        far_plain c s (WayFlow.closed_far plainly c valid xs (fair_plain c xs fair) s p (plain_closed c s xs k) (λ t m q. h t m (closed_plain c t xs q)))
