-- A path whose steps are pairwise apart can be pushed by its least room, in either order: the flow after is fair (`path_fair`), and its value is higher by what was pushed
-- (`path_value`). Apart: no pin is entered twice, none is left twice, and no two steps use the room of one net. Then a push along one step keeps the room of every other
-- (`spare_kept`). Assumes nothing.
use mathlib.Core.Path.{◌≡◌, refl, sym, ap, ◌∙◌}
use mathlib.Core.Logic.{◌≢◌, ◌⊎◌, inl, inr}
use mathlib.Core.Bool.{Bool, true, false, not, cond}
use mathlib.Core.List.{List, [], ◌∷◌}
use Prim.Native.Nat.{ℕ, ◌+◌, ◌-◌, ◌≤◌, ◌<◌, min}
use native.Mathlib.Omega.{arith}
use native.Mathlib.Decide.{ℕ_discrete}
use lib.IntN.{ℤ, pos, neg_ℤ, ◌+ℤ◌, +ℤ_assoc, +ℤ_comm, +ℤ_idl, +ℤ_idr, +ℤ_invr}
use lib.ListN.{length, get_or}
use lib.Dec.{T, eqb, eqb→eq}
use Rattle.line.specs.Card.{Net, Card, Side, all_pins}
use Rattle.line.specs.Flow.{sent, taken, total_sent, flow_at, EachNet, NetRule, only, meters, value}
use Rattle.line.proofs.Ways.{Ways, EachBy, NetRoles, FairBy, PassesBy}
use Rattle.line.proofs.Index.{net_at, start, numbers, each_at, each_by_at}
use Rattle.line.proofs.Push.{push, more_sent, less_taken, push_each, push_undo, push_rule, push_roles, numbers_same, numbers_other, push_nets, push_nets_by, full, push_flow, push-length}

-- ---- steps

-- through net `net`, from its pin a to its pin b. undo_a: pin a takes less, where it would else send more; undo_b: pin b sends less, where it would else take more
pub record Step : Type 0 where
  pub net : ℕ
  pub a : ℕ
  pub b : ℕ
  pub undo_a : Bool
  pub undo_b : Bool

-- the modules that a step leads from and to
abbrev pub pin_of : Card → ℕ → ℕ → ℕ
pin_of c e i = get_or (net_at c.nets e).pins i 0

abbrev pub tail : Card → Step → ℕ
tail c t = pin_of c t.net t.a

abbrev pub head : Card → Step → ℕ
head c t = pin_of c t.net t.b

-- what does not change with the flow
pub record Sound (w : Ways) (c : Card) (t : Step) : Type 0 where
  pub net : t.net < length c.nets
  pub a : t.a < length (net_at c.nets t.net).pins
  pub b : t.b < length (net_at c.nets t.net).pins
  pub moves : tail c t ≢ head c t
  pub sends : T (not t.undo_a) → T (w.sends t.net t.a)
  pub takes : T (not t.undo_b) → T (w.takes t.net t.b)

-- and what does: there is room for d
pub record NetSpare (n : Net) (ys : List ℤ) (d a b : ℕ) (x y : Bool) : Type 0 where
  pub less : T x → d ≤ taken (get_or ys a (pos 0))
  pub back : T y → d ≤ sent (get_or ys b (pos 0))
  pub room : T (not x) → T (not y) → total_sent ys + d ≤ n.weight

abbrev pub Spare : Card → List ℤ → ℕ → Step → Type 0
Spare c xs d t = NetSpare (net_at c.nets t.net) (numbers c.nets xs t.net) d t.a t.b t.undo_a t.undo_b

-- no pin is entered by both, none is left by both, and they do not both use the room of one net
pub record Apart (t u : Step) : Type 0 where
  pub left : t.net ≡ u.net → t.a ≢ u.a
  pub entered : t.net ≡ u.net → t.b ≢ u.b
  pub rooms : t.net ≡ u.net → T (not t.undo_a) → T (not t.undo_b) → T (not u.undo_a) → T (not u.undo_b) → ⊥

unfoldable pub push_step : Card → List ℤ → ℕ → Step → List ℤ
push_step c xs d t = push xs (start c.nets t.net + t.a) (start c.nets t.net + t.b) d

-- ---- a sound step with room for d lets d pass

pub spare_passes : (w : Ways) (c : Card) (xs : List ℤ) (d : ℕ) (t : Step) → Sound w c t → Spare c xs d t →
    PassesBy (w.sends t.net) (w.takes t.net) (net_at c.nets t.net) (numbers c.nets xs t.net) t.a t.b d
spare_passes w c xs d t p q = record { leave = one t.undo_a p.sends q.less; enter = one t.undo_b p.takes q.back; room = go t.undo_a t.undo_b q.less q.back q.room }
  where
    one : {P Q : Type 0} (x : Bool) → (T (not x) → P) → (T x → Q) → P ⊎ Q
    one true f g = inr (g tt)
    one false f g = inl (f tt)

    go : {P Q R : Type 0} (x y : Bool) → (T x → P) → (T y → Q) → (T (not x) → T (not y) → R) → P ⊎ (Q ⊎ R)
    go true y f g h = inl (f tt)
    go false true f g h = inr (inl (g tt))
    go false false f g h = inr (inr (h tt tt))

-- ---- a push along one step keeps the room of another

module _ (n : Net) (ys : List ℤ) (d a b : ℕ) (x y : Bool) (la : a < length ys) (lb : b < length ys) (ne : a ≢ b) (p : NetSpare n ys d a b x y) where
  net_kept : (a' b' : ℕ) (x' y' : Bool) → a ≢ a' → b ≢ b' → (T (not x) → T (not y) → T (not x') → T (not y') → ⊥) → NetSpare n ys d a' b' x' y' → NetSpare n (push ys a b d) d a' b' x' y'
  net_kept a' b' x' y' na nb nr q = record {
    less = λ t. push_each ys a b d la lb ne (λ i z. i ≡ a' → d ≤ taken z) (λ e. absurd (na e)) (λ e. keep_b e (q.less t)) a' (λ _ _ _. q.less t) refl;
    back = λ t. push_each ys a b d la lb ne (λ i z. i ≡ b' → d ≤ sent z) (λ e. keep_a e (q.back t)) (λ e. absurd (nb e)) b' (λ _ _ _. q.back t) refl;
    room = λ t u. go x y p.less p.back (λ v w. nr v w t u) (q.room t u);
  }
    where
      -- entering only lowers the number at b, and leaving only raises the one at a
      keep_b : b ≡ a' → d ≤ taken (get_or ys a' (pos 0)) → d ≤ taken (get_or ys b (pos 0) +ℤ neg_ℤ (pos d))
      keep_b e h = let h' : d ≤ taken (get_or ys b (pos 0)) = rw e h in omega (arith, less_taken (get_or ys b (pos 0)) d)

      keep_a : a ≡ b' → d ≤ sent (get_or ys b' (pos 0)) → d ≤ sent (get_or ys a (pos 0) +ℤ pos d)
      keep_a e h = let h' : d ≤ sent (get_or ys a (pos 0)) = rw e h in omega (arith, more_sent (get_or ys a (pos 0)) d)

      -- a step that undoes does not raise what the net's pins send
      go : (x y : Bool) → (T x → d ≤ taken (get_or ys a (pos 0))) → (T y → d ≤ sent (get_or ys b (pos 0))) → (T (not x) → T (not y) → ⊥) →
          total_sent ys + d ≤ n.weight → total_sent (push ys a b d) + d ≤ n.weight
      go true y f g k h = omega (arith, push_undo ys a b d la lb ne (inl (f tt)))
      go false true f g k h = omega (arith, push_undo ys a b d la lb ne (inr (g tt)))
      go false false f g k h = absurd (k tt tt)

module _ (w : Ways) (c : Card) (xs : List ℤ) (d : ℕ) (long : length (all_pins c.nets) ≤ length xs) (t : Step) (ok : Sound w c t) (spare : Spare c xs d t) where
  ys : List ℤ
  ys = numbers c.nets xs t.net

  la : t.a < length (numbers c.nets xs t.net)
  la = rw (full c.nets xs t.net t.a t.b d ok.net ok.a ok.b long) ok.a

  lb : t.b < length (numbers c.nets xs t.net)
  lb = rw (full c.nets xs t.net t.a t.b d ok.net ok.a ok.b long) ok.b

  pins_apart : t.a ≢ t.b
  pins_apart e = ok.moves (ap (pin_of c t.net) e)

  pub spare_kept : (u : Step) → Sound w c u → Apart t u → Spare c xs d u → Spare c (push_step c xs d t) d u
  unfolding push_step
  spare_kept u ok' ap' q = go (ℕ_discrete u.net t.net)
    where
      -- the same net
      here : (k : ℕ) → k ≡ t.net → (t.net ≡ k → t.a ≢ u.a) → (t.net ≡ k → t.b ≢ u.b) →
          (t.net ≡ k → T (not t.undo_a) → T (not t.undo_b) → T (not u.undo_a) → T (not u.undo_b) → ⊥) →
          NetSpare (net_at c.nets k) (numbers c.nets xs k) d u.a u.b u.undo_a u.undo_b →
          NetSpare (net_at c.nets k) (numbers c.nets (push xs (start c.nets t.net + t.a) (start c.nets t.net + t.b) d) k) d u.a u.b u.undo_a u.undo_b
      here k e f g h s =
          rw (e, numbers_same c.nets xs t.net t.a t.b d ok.net ok.a ok.b)
          (net_kept (net_at c.nets t.net) (numbers c.nets xs t.net) d t.a t.b t.undo_a t.undo_b la lb pins_apart spare u.a u.b u.undo_a u.undo_b
          (f (sym e)) (g (sym e)) (h (sym e)) (rw e at s))

      go : Dec (u.net ≡ t.net) → Spare c (push xs (start c.nets t.net + t.a) (start c.nets t.net + t.b) d) d u
      go (yes e) = here u.net e ap'.left ap'.entered ap'.rooms q
      go (no e) = rw (numbers_other c.nets xs t.net t.a t.b d ok.net ok.a ok.b u.net ok'.net e) q

  pub step_rules : EachNet NetRule c.nets xs → EachNet NetRule c.nets (push_step c xs d t)
  unfolding push_step
  step_rules r =
      push_nets c.nets xs t.net t.a t.b d ok.net ok.a ok.b NetRule r
      (push_rule (numbers c.nets xs t.net) t.a t.b d la lb pins_apart (w.sends t.net) (w.takes t.net) (net_at c.nets t.net) (spare_passes w c xs d t ok spare)
      (each_at NetRule c.nets xs r t.net ok.net))

  pub step_roles : EachBy (λ e. NetRoles (w.sends e) (w.takes e)) c.nets xs → EachBy (λ e. NetRoles (w.sends e) (w.takes e)) c.nets (push_step c xs d t)
  unfolding push_step
  step_roles r =
      push_nets_by c.nets xs t.net t.a t.b d ok.net ok.a ok.b (λ e. NetRoles (w.sends e) (w.takes e)) r
      (push_roles (numbers c.nets xs t.net) t.a t.b d la lb pins_apart (w.sends t.net) (w.takes t.net) (net_at c.nets t.net) (spare_passes w c xs d t ok spare)
      (each_by_at (λ e. NetRoles (w.sends e) (w.takes e)) c.nets xs r t.net ok.net))

  pub step_flow : (s : Side) → flow_at s (all_pins c.nets) (push_step c xs d t)
      ≡ (flow_at s (all_pins c.nets) xs +ℤ cond (s (tail c t)) (pos d) (pos 0)) +ℤ cond (s (head c t)) (neg_ℤ (pos d)) (pos 0)
  unfolding push_step
  step_flow s = push_flow c.nets xs t.net t.a t.b d ok.net ok.a ok.b long s

  pub step-length : length (push_step c xs d t) ≡ length xs
  unfolding push_step
  step-length = push-length c.nets xs t.net t.a t.b d ok.net ok.a ok.b

-- ---- lists of steps

unfoldable pub AllOf : (Step → Type 0) → List Step → Type 0
AllOf P [] = Unit {0}
AllOf P (t ∷ ts) = P t × AllOf P ts

unfoldable pub Pairwise : List Step → Type 0
Pairwise [] = Unit {0}
Pairwise (t ∷ ts) = AllOf (Apart t) ts × Pairwise ts

unfoldable pub push_all : Card → List ℤ → ℕ → List Step → List ℤ
push_all c xs d [] = xs
push_all c xs d (t ∷ ts) = push_all c (push_step c xs d t) d ts

-- the steps in order lead from h to u
unfoldable pub Leads : Card → ℕ → List Step → ℕ → Type 0
Leads c h [] u = h ≡ u
Leads c h (t ∷ ts) u = (tail c t ≡ h) × Leads c (head c t) ts u

-- the steps from last to first lead from h to u
unfoldable pub LeadsBack : Card → ℕ → List Step → ℕ → Type 0
LeadsBack c h [] u = h ≡ u
LeadsBack c h (t ∷ ts) u = (head c t ≡ u) × LeadsBack c h ts (tail c t)

-- ---- what a path carries at a side: what its first module sends and its last one takes

give : Side → ℕ → ℕ → ℤ
give s d m = cond (s m) (pos d) (pos 0)

get : Side → ℕ → ℕ → ℤ
get s d m = cond (s m) (neg_ℤ (pos d)) (pos 0)

drift : Card → Side → ℕ → List Step → ℤ
drift c s d [] = pos 0
drift c s d (t ∷ ts) = (give s d (tail c t) +ℤ get s d (head c t)) +ℤ drift c s d ts

give_get : (s : Side) (d m : ℕ) → give s d m +ℤ get s d m ≡ pos 0
unfolding give get
give_get s d m = go (s m)
  where
    go : (b : Bool) → cond b (pos d) (pos 0) +ℤ cond b (neg_ℤ (pos d)) (pos 0) ≡ pos 0
    go true = +ℤ_invr (pos d)
    go false = refl

-- p + n and p' + n' join, where n and p' set each other off
join : (p n p' n' : ℤ) → p' +ℤ n ≡ pos 0 → (p +ℤ n) +ℤ (p' +ℤ n') ≡ p +ℤ n'
join p n p' n' e =
    +ℤ_assoc p n (p' +ℤ n')
    ∙ ap (λ (z : ℤ). p +ℤ z) (sym (+ℤ_assoc n p' n') ∙ ap (λ (z : ℤ). z +ℤ n') (+ℤ_comm n p' ∙ e) ∙ +ℤ_idl n')

module _ (c : Card) (s : Side) (d : ℕ) where
  leads_drift : (h : ℕ) (ts : List Step) (u : ℕ) → Leads c h ts u → drift c s d ts ≡ give s d h +ℤ get s d u
  unfolding drift Leads
  leads_drift h [] u e = rw e (sym (give_get s d u))
  leads_drift h (t ∷ ts) u l =
      rw (leads_drift (head c t) ts u l.1, ← l.0) (join (give s d (tail c t)) (get s d (head c t)) (give s d (head c t)) (get s d u) (give_get s d (head c t)))

  back_drift : (h : ℕ) (ts : List Step) (u : ℕ) → LeadsBack c h ts u → drift c s d ts ≡ give s d h +ℤ get s d u
  unfolding drift LeadsBack
  back_drift h [] u e = rw e (sym (give_get s d u))
  back_drift h (t ∷ ts) u l =
      rw (back_drift h ts (tail c t) l.1, ← l.0)
      (+ℤ_comm (give s d (tail c t) +ℤ get s d (head c t)) (give s d h +ℤ get s d (tail c t))
      ∙ join (give s d h) (get s d (tail c t)) (give s d (tail c t)) (get s d (head c t)) (give_get s d (tail c t)))

-- ---- the whole path

pub record Ready (w : Ways) (c : Card) (xs : List ℤ) (d : ℕ) (ts : List Step) : Type 0 where
  pub long : length (all_pins c.nets) ≤ length xs
  pub sound : AllOf (Sound w c) ts
  pub spare : AllOf (Spare c xs d) ts
  pub apart : Pairwise ts

module _ (w : Ways) (c : Card) (d : ℕ) where
  all_kept : (xs : List ℤ) → length (all_pins c.nets) ≤ length xs → (t : Step) → Sound w c t → Spare c xs d t →
      (ts : List Step) → AllOf (Sound w c) ts → AllOf (Apart t) ts → AllOf (Spare c xs d) ts → AllOf (Spare c (push_step c xs d t) d) ts
  unfolding AllOf
  all_kept xs long t ok sp [] p q r = tt
  all_kept xs long t ok sp (u ∷ ts) p q r = (spare_kept w c xs d long t ok sp u p.0 q.0 r.0, all_kept xs long t ok sp ts p.1 q.1 r.1)

  -- after one step the others are ready
  pub ready_step : (xs : List ℤ) (t : Step) (ts : List Step) → Ready w c xs d (t ∷ ts) → Ready w c (push_step c xs d t) d ts
  unfolding AllOf Pairwise
  ready_step xs t ts r = record {
    long = rw (step-length w c xs d r.long t r.sound.0 r.spare.0) r.long;
    sound = r.sound.1;
    spare = all_kept xs r.long t r.sound.0 r.spare.0 ts r.sound.1 r.apart.0 r.spare.1;
    apart = r.apart.1;
  }

  pub path-length : (ts : List Step) (xs : List ℤ) → Ready w c xs d ts → length (push_all c xs d ts) ≡ length xs
  unfolding push_all AllOf
  path-length [] xs r = refl
  path-length (t ∷ ts) xs r = path-length ts (push_step c xs d t) (ready_step xs t ts r) ∙ step-length w c xs d r.long t r.sound.0 r.spare.0

  pub path_rules : (ts : List Step) (xs : List ℤ) → Ready w c xs d ts → EachNet NetRule c.nets xs → EachNet NetRule c.nets (push_all c xs d ts)
  unfolding push_all AllOf
  path_rules [] xs r f = f
  path_rules (t ∷ ts) xs r f = path_rules ts (push_step c xs d t) (ready_step xs t ts r) (step_rules w c xs d r.long t r.sound.0 r.spare.0 f)

  pub path_roles : (ts : List Step) (xs : List ℤ) → Ready w c xs d ts →
      EachBy (λ e. NetRoles (w.sends e) (w.takes e)) c.nets xs → EachBy (λ e. NetRoles (w.sends e) (w.takes e)) c.nets (push_all c xs d ts)
  unfolding push_all AllOf
  path_roles [] xs r f = f
  path_roles (t ∷ ts) xs r f = path_roles ts (push_step c xs d t) (ready_step xs t ts r) (step_roles w c xs d r.long t r.sound.0 r.spare.0 f)

  path_flow : (ts : List Step) (xs : List ℤ) → Ready w c xs d ts → (s : Side) → flow_at s (all_pins c.nets) (push_all c xs d ts) ≡ flow_at s (all_pins c.nets) xs +ℤ drift c s d ts
  unfolding push_all AllOf drift give get
  path_flow [] xs r s = sym (+ℤ_idr (flow_at s (all_pins c.nets) xs))
  path_flow (t ∷ ts) xs r s =
      path_flow ts (push_step c xs d t) (ready_step xs t ts r) s
      ∙ ap (λ (z : ℤ). z +ℤ drift c s d ts)
      (step_flow w c xs d r.long t r.sound.0 r.spare.0 s ∙ +ℤ_assoc (flow_at s (all_pins c.nets) xs) (cond (s (tail c t)) (pos d) (pos 0)) (cond (s (head c t)) (neg_ℤ (pos d)) (pos 0)))
      ∙ +ℤ_assoc (flow_at s (all_pins c.nets) xs) (cond (s (tail c t)) (pos d) (pos 0) +ℤ cond (s (head c t)) (neg_ℤ (pos d)) (pos 0)) (drift c s d ts)

  -- a path from h to u, in either order of its steps
  module _ (xs : List ℤ) (ts : List Step) (r : Ready w c xs d ts) (h u : ℕ) (l : Leads c h ts u ⊎ LeadsBack c h ts u) where
    ends : (s : Side) → flow_at s (all_pins c.nets) (push_all c xs d ts) ≡ flow_at s (all_pins c.nets) xs +ℤ (give s d h +ℤ get s d u)
    ends s = path_flow ts xs r s ∙ ap (λ (z : ℤ). flow_at s (all_pins c.nets) xs +ℤ z) (go l)
      where
        go : Leads c h ts u ⊎ LeadsBack c h ts u → drift c s d ts ≡ give s d h +ℤ get s d u
        go (inl k) = leads_drift c s d h ts u k
        go (inr k) = back_drift c s d h ts u k

    eqb_no : (m n : ℕ) → m ≢ n → eqb m n ≡ false
    eqb_no m n f = go (eqb m n) (eqb→eq m n)
      where
        go : (b : Bool) → (T b → m ≡ n) → b ≡ false
        go true e = absurd (f (e tt))
        go false e = refl

    -- from a marked module to a marked one, a fair flow stays fair
    pub path_fair : c.mark h ≢ 0 → c.mark u ≢ 0 → FairBy w c xs → FairBy w c (push_all c xs d ts)
    unfolding give get
    path_fair nh nu f = record {
      fair = record {
        nets = path_rules ts xs r f.fair.nets;
        modules = λ m lt z. ends (only m) ∙ rw (f.fair.modules m lt z, eqb_no h m (λ e. nh (rw e z)), eqb_no u m (λ e. nu (rw e z)));
      };
      roles = path_roles ts xs r f.roles;
    }

    -- from a meter to another kind of module, the value is d higher
    pub path_value : c.mark h ≡ 1 → c.mark u ≢ 1 → value c (push_all c xs d ts) ≡ value c xs +ℤ pos d
    unfolding value give get
    path_value eh nu = ends (meters c) ∙ rw (eh, eqb_no (c.mark u) 1 nu) (ap (λ (z : ℤ). flow_at (meters c) (all_pins c.nets) xs +ℤ z) (+ℤ_idr (pos d)))

-- ---- the least room of a path

-- how much can pass at a step: A and B are what pin a takes and pin b sends, and R is the net's room
abbrev pub spare_by : Bool → Bool → ℕ → ℕ → ℕ → ℕ
spare_by x y A B R = cond x (cond y (min A B) A) (cond y B R)

abbrev pub spare_of : Card → List ℤ → Step → ℕ
spare_of c xs t =
    let ys = numbers c.nets xs t.net in
    spare_by t.undo_a t.undo_b (taken (get_or ys t.a (pos 0))) (sent (get_or ys t.b (pos 0))) ((net_at c.nets t.net).weight - total_sent ys)

unfoldable pub least : Card → List ℤ → ℕ → List Step → ℕ
least c xs top [] = top
least c xs top (t ∷ ts) = min (spare_of c xs t) (least c xs top ts)

module _ (c : Card) (xs : List ℤ) where
  pub spare-of : (d : ℕ) (t : Step) → total_sent (numbers c.nets xs t.net) ≤ (net_at c.nets t.net).weight → d ≤ spare_of c xs t → Spare c xs d t
  spare-of d t fits = go t.undo_a t.undo_b
    where
      go : (x y : Bool) →
          d ≤ spare_by x y (taken (get_or (numbers c.nets xs t.net) t.a (pos 0))) (sent (get_or (numbers c.nets xs t.net) t.b (pos 0))) ((net_at c.nets t.net).weight - total_sent (numbers c.nets xs t.net)) →
          NetSpare (net_at c.nets t.net) (numbers c.nets xs t.net) d t.a t.b x y
      go true true h = record { less = λ _. omega arith; back = λ _. omega arith; room = λ u _. absurd u }
      go true false h = record { less = λ _. h; back = λ u. absurd u; room = λ u _. absurd u }
      go false true h = record { less = λ u. absurd u; back = λ _. h; room = λ _ u. absurd u }
      go false false h = record { less = λ u. absurd u; back = λ u. absurd u; room = λ _ _. omega arith }

  pub of_spare : (d : ℕ) (t : Step) → Spare c xs d t → d ≤ spare_of c xs t
  of_spare d t p =
      let ys = numbers c.nets xs t.net in
      go (taken (get_or ys t.a (pos 0))) (sent (get_or ys t.b (pos 0))) (net_at c.nets t.net).weight (total_sent ys) t.undo_a t.undo_b p.less p.back p.room
    where
      go : (A B W N : ℕ) (x y : Bool) → (T x → d ≤ A) → (T y → d ≤ B) → (T (not x) → T (not y) → N + d ≤ W) → d ≤ spare_by x y A B (W - N)
      go A B W N true true f g h = omega (arith, f tt, g tt)
      go A B W N true false f g h = f tt
      go A B W N false true f g h = g tt
      go A B W N false false f g h = omega (arith, h tt tt)

  pub least_spare : (w : Ways) (top d : ℕ) (ts : List Step) → EachNet NetRule c.nets xs → AllOf (Sound w c) ts → d ≤ least c xs top ts → AllOf (Spare c xs d) ts
  unfolding least AllOf
  least_spare w top d [] r ok h = tt
  least_spare w top d (t ∷ ts) r ok h =
      (spare-of d t (each_at NetRule c.nets xs r t.net ok.0.net).fits (omega arith), least_spare w top d ts r ok.1 (omega arith))

  pub least_above : (top d : ℕ) (ts : List Step) → d ≤ top → AllOf (Spare c xs d) ts → d ≤ least c xs top ts
  unfolding least AllOf
  least_above top d [] h p = h
  least_above top d (t ∷ ts) h p = omega (arith, of_spare d t p.0, least_above top d ts h p.1)

-- ---- a path from a meter to a maker through which something can pass: pushed by its least room, it gives a fair flow of a higher value

module _ (w : Ways) (c : Card) (xs : List ℤ) (top : ℕ) (ts : List Step) (f : FairBy w c xs) (r : Ready w c xs 1 ts) (cap : 1 ≤ top)
    (h u : ℕ) (l : Leads c h ts u ⊎ LeadsBack c h ts u) (meter : c.mark h ≡ 1) (maker : c.mark u ≡ 2) where
  abbrev most : ℕ
  most = least c xs top ts

  pub augment_ready : Ready w c xs most ts
  augment_ready = record { long = r.long; sound = r.sound; spare = least_spare c xs w top most ts f.fair.nets r.sound (omega arith); apart = r.apart }

  pub augment_fair : FairBy w c (push_all c xs most ts)
  augment_fair = path_fair w c most xs ts augment_ready h u l (λ e. absurd (omega (arith, e, meter))) (λ e. absurd (omega (arith, e, maker))) f
