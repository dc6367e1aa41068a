-- A tree that holds a maker gives a path: the walk up from the maker (`walk_leads`), whose steps are sound and pairwise apart (`walk_sound`, `walk_pairwise`), whatever the flow is. Each module in the tree that is no meter has
-- the step `up` by which it was reached, from a module of lower rank; the room of a net is used from one of its pins alone, its opener, so no two steps of a walk use it.
-- Assumes nothing.
use mathlib.Core.Path.{◌≡◌, refl, sym, ap, ◌∙◌}
use mathlib.Core.Logic.{◌≢◌}
use mathlib.Core.Bool.{Bool, true, false, not, cond}
use mathlib.Core.List.{List, [], ◌∷◌, Memᴰ}
use Prim.Native.Nat.{ℕ, zero, suc, ◌+◌, ◌≤◌, ◌<◌}
use native.Mathlib.Omega.{arith}
use native.Mathlib.Nat.{not-suc-le-zero, le_of_suc-le-suc}
use lib.ListN.{length, get_or}
use lib.Dec.{T, eqb, eqb→eq, T_not}
use Rattle.line.specs.Card.{Card, Side, all_pins, Separates}
use Rattle.line.specs.Flow.{meters}
use Rattle.line.proofs.Ways.{Ways}
use Rattle.line.proofs.WayFlow.{Valid}
use Rattle.line.proofs.Index.{net_at, start, start_in, pin_at}
use Rattle.line.proofs.Path.{Step, pin_of, tail, head, Sound, Apart, AllOf, Pairwise, LeadsBack}
use Rattle.line.proofs.Search.{tree_apart}

-- ---- the pins of a valid card name modules

get_or-mem : (ps : List ℕ) (i : ℕ) → i < length ps → Memᴰ (get_or ps i 0) ps
get_or-mem [] i l = absurd (not-suc-le-zero l)
get_or-mem (p ∷ ps) zero l = Memᴰ.head refl
get_or-mem (p ∷ ps) (suc i) l = Memᴰ.tail (get_or-mem ps i (le_of_suc-le-suc l))

pub pin_module : (c : Card) → Valid c → (e i : ℕ) → e < length c.nets → i < length (net_at c.nets e).pins → pin_of c e i < c.modules
pin_module c v e i l k =
    v.pins (pin_of c e i) (rw (pin_at c.nets e l i k) at (get_or-mem (all_pins c.nets) (start c.nets e + i) (omega (arith, start_in c.nets e l))))

-- the meters alone separate: a bound for every flow
pub meters_separate : (c : Card) → Separates c (meters c)
meters_separate c = record { meters = λ m l e. rw e tt; makers = λ m l e. rw e tt }

-- ---- trees

pub record Twig (w : Ways) (c : Card) (rank opener : ℕ → ℕ) (x : Side) (m : ℕ) (t : Step) : Type 0 where
  pub sound : Sound w c t
  pub to : head c t ≡ m
  pub from : T (x (tail c t))
  pub lower : rank (tail c t) < rank m
  pub opened : T (not t.undo_a) → T (not t.undo_b) → t.a ≡ opener t.net

abbrev pub Tree : Ways → Card → (ℕ → ℕ) → (ℕ → ℕ) → (ℕ → Step) → Side → Type 0
Tree w c rank opener up x = (m : ℕ) → m < c.modules → T (x m) → c.mark m ≢ 1 → Twig w c rank opener x m (up m)

-- ---- the walk up from m, in at most k steps

unfoldable pub walk : Card → (ℕ → Step) → ℕ → ℕ → List Step
walk c up zero m = []
walk c up (suc k) m = cond (eqb (c.mark m) 1) [] (up m ∷ walk c up k (tail c (up m)))

no_meter : (k : ℕ) → T (not (eqb k 1)) → k ≢ 1
no_meter k t e = T_not (eqb k 1) t (rw e tt)

module _ (w : Ways) (c : Card) (valid : Valid c) (rank opener : ℕ → ℕ) (up : ℕ → Step) (x : Side) (tree : Tree w c rank opener up x) where
  below : (m : ℕ) → Twig w c rank opener x m (up m) → tail c (up m) < c.modules
  below m g = pin_module c valid (up m).net (up m).a g.sound.net g.sound.a

  -- it leads from a meter to m
  pub walk_leads : (k m : ℕ) → m < c.modules → T (x m) → rank m < k → (h : ℕ) × (c.mark h ≡ 1) × LeadsBack c h (walk c up k m) m
  unfolding walk LeadsBack
  walk_leads zero m l i r = absurd (not-suc-le-zero r)
  walk_leads (suc k) m l i r =
      go (eqb (c.mark m) 1) (eqb→eq (c.mark m) 1) (λ t. tree m l i (no_meter (c.mark m) t))
      (λ g. walk_leads k (tail c (up m)) (below m g) g.from (omega (arith, g.lower)))
    where
      go : (b : Bool) → (T b → c.mark m ≡ 1) → (T (not b) → Twig w c rank opener x m (up m)) →
          (Twig w c rank opener x m (up m) → (h : ℕ) × (c.mark h ≡ 1) × LeadsBack c h (walk c up k (tail c (up m))) (tail c (up m))) →
          (h : ℕ) × (c.mark h ≡ 1) × LeadsBack c h (cond b [] (up m ∷ walk c up k (tail c (up m)))) m
      go true e g f = (m, e tt, refl)
      go false e g f = let r = f (g tt) in (r.0, r.1, ((g tt).to, r.2))

  -- what is true of each step of a walk
  walk_all : (P : Step → Type 0) (n : ℕ) → ((m : ℕ) → m < c.modules → T (x m) → c.mark m ≢ 1 → rank m ≤ n → Twig w c rank opener x m (up m) → P (up m)) →
      (k m : ℕ) → m < c.modules → T (x m) → rank m ≤ n → AllOf P (walk c up k m)
  unfolding walk AllOf
  walk_all P n h zero m l i r = tt
  walk_all P n h (suc k) m l i r =
      go (eqb (c.mark m) 1) (λ t. h m l i (no_meter (c.mark m) t) r) (λ t. tree m l i (no_meter (c.mark m) t))
      (λ g. walk_all P n h k (tail c (up m)) (below m g) g.from (omega (arith, g.lower)))
    where
      go : (b : Bool) → (T (not b) → Twig w c rank opener x m (up m) → P (up m)) → (T (not b) → Twig w c rank opener x m (up m)) →
          (Twig w c rank opener x m (up m) → AllOf P (walk c up k (tail c (up m)))) → AllOf P (cond b [] (up m ∷ walk c up k (tail c (up m))))
      go true e g f = tt
      go false e g f = (e tt (g tt), f (g tt))

  -- steps further up are apart: their modules have lower ranks
  walk_apart : (m : ℕ) → Twig w c rank opener x m (up m) → (k : ℕ) → AllOf (Apart (up m)) (walk c up k (tail c (up m)))
  walk_apart m g k =
      walk_all (Apart (up m)) (rank (tail c (up m)))
      (λ u l i n r q.
      tree_apart c opener (up m) (up u)
      (λ e. absurd (omega (arith, ap rank e, q.lower, r)))
      (λ e. absurd (omega (arith, ap rank (sym g.to ∙ e ∙ q.to), g.lower, r)))
      g.opened q.opened)
      k (tail c (up m)) (below m g) g.from (omega arith)

  pub walk_pairwise : (k m : ℕ) → m < c.modules → T (x m) → Pairwise (walk c up k m)
  unfolding walk Pairwise
  walk_pairwise zero m l i = tt
  walk_pairwise (suc k) m l i =
      go (eqb (c.mark m) 1) (λ t. tree m l i (no_meter (c.mark m) t)) (λ g. walk_pairwise k (tail c (up m)) (below m g) g.from)
    where
      go : (b : Bool) → (T (not b) → Twig w c rank opener x m (up m)) → (Twig w c rank opener x m (up m) → Pairwise (walk c up k (tail c (up m)))) →
          Pairwise (cond b [] (up m ∷ walk c up k (tail c (up m))))
      go true g f = tt
      go false g f = (walk_apart m (g tt) k, f (g tt))

  -- its steps are sound and apart, whatever the flow is
  pub walk_sound : (k m : ℕ) → m < c.modules → T (x m) → AllOf (Sound w c) (walk c up k m)
  walk_sound k m l i = walk_all (Sound w c) (rank m) (λ _ _ _ _ _ g. g.sound) k m l i (omega arith)

  -- what holds of every module's step holds on the walk
  pub walk_every : (P : Step → Type 0) → ((m : ℕ) → m < c.modules → T (x m) → c.mark m ≢ 1 → P (up m)) → (k m : ℕ) → m < c.modules → T (x m) → AllOf P (walk c up k m)
  walk_every P h k m l i = walk_all P (rank m) (λ m l i n _ _. h m l i n) k m l i (omega arith)
