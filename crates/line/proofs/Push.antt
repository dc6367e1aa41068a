-- Pushing d more from pin a to pin b of a net through which d can pass keeps the net rule and the roles, leaves all other nets as they were, and changes what a side
-- sends by d at those two pins alone. Assumes nothing.
use mathlib.Core.Path.{◌≡◌, refl, sym, ap, ap₂, ◌∙◌}
use mathlib.Core.Logic.{◌≢◌, ◌⊎◌, inl, inr}
use mathlib.Core.Bool.{Bool, true, false, not, cond}
use mathlib.Core.List.{List, [], ◌∷◌}
use Prim.Native.Nat.{ℕ, zero, suc, ◌+◌, ◌-◌, ◌≤◌, ◌<◌}
use native.Mathlib.Omega.{arith}
use native.Mathlib.Nat.{le_of_suc-le-suc, not-suc-le-zero}
use lib.IntN.{ℤ, pos, negsuc, neg_ℤ, sub_ℕ, ◌+ℤ◌, +ℤ_assoc, +ℤ_comm, +ℤ_idr, +ℤ_invr}
use lib.ListN.{length, take, drop, get_or, set, length-set, length-drop}
use native.Mathlib.Decide.{ℕ_discrete}
use lib.Seq.{length-take-le, take-set-le, take-set-lt, drop-set-lt, drop-set-add, get_or-take, get_or-drop, get_or-set_same, get_or-set_other}
use lib.Dec.{T, ltb, ltb→lt, nltb→le}
use Rattle.line.specs.Card.{Net, Side, all_pins}
use Rattle.line.specs.Flow.{sent, taken, total, total_sent, flow_at, EachNet, NetRule}
use Rattle.line.proofs.Ways.{EachBy, NetRoles, PassesBy}
use Rattle.line.proofs.Sums.{sum, sum_sent}
use Rattle.line.proofs.Index.{net_at, start, start_in, start_mono, numbers, pin_at, each_at, each_from, each_by_at, each_by_from}

-- z more at pin i
abbrev pub add : List ℤ → ℕ → ℤ → List ℤ
add xs i z = set xs i (get_or xs i (pos 0) +ℤ z)

-- pin a sends d more, and pin b takes it
unfoldable pub push : List ℤ → ℕ → ℕ → ℕ → List ℤ
push xs a b d = add (add xs a (pos d)) b (neg_ℤ (pos d))

-- ---- sums

swap_right : (x y z : ℤ) → (x +ℤ z) +ℤ y ≡ (x +ℤ y) +ℤ z
swap_right x y z = +ℤ_assoc x z y ∙ ap (λ (w : ℤ). x +ℤ w) (+ℤ_comm z y) ∙ sym (+ℤ_assoc x y z)

cond-add : (b : Bool) (x y z : ℤ) → cond b (x +ℤ z) (pos 0) +ℤ y ≡ (cond b x (pos 0) +ℤ y) +ℤ cond b z (pos 0)
cond-add true x y z = swap_right x y z
cond-add false x y z = sym (+ℤ_idr (pos 0 +ℤ y))

pub flow_at-add : (s : Side) (ps : List ℕ) (xs : List ℤ) (i : ℕ) (z : ℤ) → i < length ps → i < length xs →
    flow_at s ps (add xs i z) ≡ flow_at s ps xs +ℤ cond (s (get_or ps i 0)) z (pos 0)
unfolding flow_at
flow_at-add s [] xs i z l k = absurd (not-suc-le-zero l)
flow_at-add s (p ∷ ps) [] i z l k = absurd (not-suc-le-zero k)
flow_at-add s (p ∷ ps) (x ∷ xs) zero z l k = cond-add (s p) x (flow_at s ps xs) z
flow_at-add s (p ∷ ps) (x ∷ xs) (suc i) z l k =
    ap (λ (w : ℤ). cond (s p) x (pos 0) +ℤ w) (flow_at-add s ps xs i z (le_of_suc-le-suc l) (le_of_suc-le-suc k))
    ∙ sym (+ℤ_assoc (cond (s p) x (pos 0)) (flow_at s ps xs) (cond (s (get_or ps i 0)) z (pos 0)))

pub total-add : (xs : List ℤ) (i : ℕ) (z : ℤ) → i < length xs → total (add xs i z) ≡ total xs +ℤ z
unfolding total
total-add [] i z k = absurd (not-suc-le-zero k)
total-add (x ∷ xs) zero z k = swap_right x (total xs) z
total-add (x ∷ xs) (suc i) z k = ap (λ (w : ℤ). x +ℤ w) (total-add xs i z (le_of_suc-le-suc k)) ∙ sym (+ℤ_assoc x (total xs) z)

sum-set : (f : ℤ → ℕ) (xs : List ℤ) (i : ℕ) (v : ℤ) → i < length xs → sum f (set xs i v) + f (get_or xs i (pos 0)) ≡ sum f xs + f v
unfolding sum
sum-set f [] i v k = absurd (not-suc-le-zero k)
sum-set f (x ∷ xs) zero v k = omega arith
sum-set f (x ∷ xs) (suc i) v k = omega (arith, sum-set f xs i v (le_of_suc-le-suc k))

-- ---- a number after d more, and after d less

sent-sub : (a b : ℕ) → sent (sub_ℕ a b) ≡ a - b
sent-sub a b = go (ltb a b) (ltb→lt a b) (nltb→le a b)
  where
    go : (t : Bool) → (T t → a < b) → (T (not t) → b ≤ a) → sent (cond t (negsuc (b - suc a)) (pos (a - b))) ≡ a - b
    go true f g = omega (arith, f tt)
    go false f g = refl

taken-sub : (a b : ℕ) → taken (sub_ℕ a b) ≡ b - a
taken-sub a b = go (ltb a b) (ltb→lt a b) (nltb→le a b)
  where
    go : (t : Bool) → (T t → a < b) → (T (not t) → b ≤ a) → taken (cond t (negsuc (b - suc a)) (pos (a - b))) ≡ b - a
    go true f g = omega (arith, f tt)
    go false f g = omega (arith, g tt)

-- what is sent rises by d less what was taken, and what is taken falls by d
pub more_sent : (y : ℤ) (d : ℕ) → sent (y +ℤ pos d) ≡ sent y + (d - taken y)
more_sent (pos a) d = omega arith
more_sent (negsuc a) d = omega (arith, sent-sub d (suc a))

pub more_taken : (y : ℤ) (d : ℕ) → taken (y +ℤ pos d) ≡ taken y - d
more_taken (pos a) d = omega arith
more_taken (negsuc a) d = omega (arith, taken-sub d (suc a))

pub less_sent : (y : ℤ) (d : ℕ) → sent (y +ℤ neg_ℤ (pos d)) ≡ sent y - d
less_sent (pos a) zero = omega arith
less_sent (pos a) (suc d) = omega (arith, sent-sub a (suc d))
less_sent (negsuc a) zero = omega (arith, sent-sub 0 (suc a))
less_sent (negsuc a) (suc d) = omega arith

pub less_taken : (y : ℤ) (d : ℕ) → taken (y +ℤ neg_ℤ (pos d)) ≡ taken y + (d - sent y)
less_taken (pos a) zero = omega arith
less_taken (pos a) (suc d) = omega (arith, taken-sub a (suc d))
less_taken (negsuc a) zero = omega (arith, taken-sub 0 (suc a))
less_taken (negsuc a) (suc d) = omega arith

-- ---- one net

module _ (ys : List ℤ) (a b d : ℕ) (la : a < length ys) (lb : b < length ys) where
  lb' : b < length (add ys a (pos d))
  lb' = rw (length-set ys a (get_or ys a (pos 0) +ℤ pos d)) lb

  push-total : total (push ys a b d) ≡ total ys
  unfolding push
  push-total =
      total-add (add ys a (pos d)) b (neg_ℤ (pos d)) lb'
      ∙ ap (λ (w : ℤ). w +ℤ neg_ℤ (pos d)) (total-add ys a (pos d) la)
      ∙ +ℤ_assoc (total ys) (pos d) (neg_ℤ (pos d)) ∙ ap (λ (w : ℤ). total ys +ℤ w) (+ℤ_invr (pos d)) ∙ +ℤ_idr (total ys)

  module _ (ne : a ≢ b) where
    pub push_at_a : get_or (push ys a b d) a (pos 0) ≡ get_or ys a (pos 0) +ℤ pos d
    unfolding push
    push_at_a =
        get_or-set_other (add ys a (pos d)) b a (get_or (add ys a (pos d)) b (pos 0) +ℤ neg_ℤ (pos d)) (pos 0) ne
        ∙ get_or-set_same ys a (get_or ys a (pos 0) +ℤ pos d) (pos 0) la

    pub push_at_b : get_or (push ys a b d) b (pos 0) ≡ get_or ys b (pos 0) +ℤ neg_ℤ (pos d)
    unfolding push
    push_at_b =
        get_or-set_same (add ys a (pos d)) b (get_or (add ys a (pos d)) b (pos 0) +ℤ neg_ℤ (pos d)) (pos 0) lb'
        ∙ ap (λ (w : ℤ). w +ℤ neg_ℤ (pos d)) (get_or-set_other ys a b (get_or ys a (pos 0) +ℤ pos d) (pos 0) (λ e. ne (sym e)))

    pub push_at_other : (i : ℕ) → i ≢ a → i ≢ b → get_or (push ys a b d) i (pos 0) ≡ get_or ys i (pos 0)
    unfolding push
    push_at_other i na nb =
        get_or-set_other (add ys a (pos d)) b i (get_or (add ys a (pos d)) b (pos 0) +ℤ neg_ℤ (pos d)) (pos 0) nb
        ∙ get_or-set_other ys a i (get_or ys a (pos 0) +ℤ pos d) (pos 0) na

    -- what is true of the numbers at a, at b and elsewhere is true of every one
    pub push_each : (P : ℕ → ℤ → Type 0) → P a (get_or ys a (pos 0) +ℤ pos d) → P b (get_or ys b (pos 0) +ℤ neg_ℤ (pos d)) → (i : ℕ) → (i ≢ a → i ≢ b → P i (get_or ys i (pos 0))) →
        P i (get_or (push ys a b d) i (pos 0))
    push_each P x y i z = go (ℕ_discrete i a) (ℕ_discrete i b)
      where
        go : Dec (i ≡ a) → Dec (i ≡ b) → P i (get_or (push ys a b d) i (pos 0))
        go (yes e) f = rw (e, push_at_a) x
        go (no e) (yes f) = rw (f, push_at_b) y
        go (no e) (no f) = rw (push_at_other i e f) (z e f)

    -- what the net's pins send, after
    pub push-sum : total_sent (push ys a b d) + (sent (get_or ys a (pos 0)) + sent (get_or ys b (pos 0)))
        ≡ total_sent ys + (sent (get_or ys a (pos 0) +ℤ pos d) + sent (get_or ys b (pos 0) +ℤ neg_ℤ (pos d)))
    unfolding push
    push-sum =
        let y1 = add ys a (pos d) in
        let other = ap sent (get_or-set_other ys a b (get_or ys a (pos 0) +ℤ pos d) (pos 0) (λ e. ne (sym e))) in
        let other' = ap (λ (w : ℤ). sent (w +ℤ neg_ℤ (pos d))) (get_or-set_other ys a b (get_or ys a (pos 0) +ℤ pos d) (pos 0) (λ e. ne (sym e))) in
        let step1 = sum-set sent ys a (get_or ys a (pos 0) +ℤ pos d) la in
        let step2 = sum-set sent y1 b (get_or y1 b (pos 0) +ℤ neg_ℤ (pos d)) lb' in
        omega (arith, step1, step2, other, other', sum_sent ys, sum_sent (push ys a b d))

    -- it is no more where a takes d now, or b sends d now
    pub push_undo : (d ≤ taken (get_or ys a (pos 0))) ⊎ (d ≤ sent (get_or ys b (pos 0))) → total_sent (push ys a b d) ≤ total_sent ys
    push_undo (inl h) = omega (arith, push-sum, more_sent (get_or ys a (pos 0)) d, less_sent (get_or ys b (pos 0)) d)
    push_undo (inr h) = omega (arith, push-sum, more_sent (get_or ys a (pos 0)) d, less_sent (get_or ys b (pos 0)) d)

    push_sent : (n : Net) → total_sent ys ≤ n.weight →
        (d ≤ taken (get_or ys a (pos 0))) ⊎ ((d ≤ sent (get_or ys b (pos 0))) ⊎ (total_sent ys + d ≤ n.weight)) → total_sent (push ys a b d) ≤ n.weight
    push_sent n fits (inl r) = omega (arith, push_undo (inl r))
    push_sent n fits (inr (inl r)) = omega (arith, push_undo (inr r))
    push_sent n fits (inr (inr r)) = omega (arith, push-sum, more_sent (get_or ys a (pos 0)) d, less_sent (get_or ys b (pos 0)) d)

    module _ (r q : ℕ → Bool) (n : Net) (p : PassesBy r q n ys a b d) where
      pub push_rule : NetRule n ys → NetRule n (push ys a b d)
      push_rule k = record { zero = push-total ∙ k.zero; fits = push_sent n k.fits p.room }

      pub push_roles : NetRoles r q n ys → NetRoles r q n (push ys a b d)
      push_roles k = record {
        sends = λ i. push_each (λ i z. 0 < sent z → T (r i)) (at_a p.leave) (λ h. k.sends b (omega (arith, less_sent (get_or ys b (pos 0)) d))) i (λ _ _. k.sends i);
        takes = λ i. push_each (λ i z. 0 < taken z → T (q i)) (λ h. k.takes a (omega (arith, more_taken (get_or ys a (pos 0)) d))) (at_b p.enter) i (λ _ _. k.takes i);
      }
        where
          at_a : T (r a) ⊎ (d ≤ taken (get_or ys a (pos 0))) → 0 < sent (get_or ys a (pos 0) +ℤ pos d) → T (r a)
          at_a (inl t) h = t
          at_a (inr g) h = k.sends a (omega (arith, more_sent (get_or ys a (pos 0)) d))

          at_b : T (q b) ⊎ (d ≤ sent (get_or ys b (pos 0))) → 0 < taken (get_or ys b (pos 0) +ℤ neg_ℤ (pos d)) → T (q b)
          at_b (inl t) h = t
          at_b (inr g) h = k.takes b (omega (arith, less_taken (get_or ys b (pos 0)) d))

-- ---- all nets: a push at two pins of net e

take-add-lt : (k : ℕ) (xs : List ℤ) (i : ℕ) (z : ℤ) → i < k → take k (add xs i z) ≡ add (take k xs) i z
take-add-lt k xs i z l = rw (take-set-lt k xs i (get_or xs i (pos 0) +ℤ z) l, get_or-take k xs i (pos 0) l)

drop_add_at : (k : ℕ) (xs : List ℤ) (i : ℕ) (z : ℤ) → drop k (add xs (k + i) z) ≡ add (drop k xs) i z
drop_add_at k xs i z = rw (drop-set-add k xs i (get_or xs (k + i) (pos 0) +ℤ z), get_or-drop k xs i (pos 0))

set_after : (k l : ℕ) (xs : List ℤ) (i : ℕ) (v : ℤ) → k + l ≤ i → take l (drop k (set xs i v)) ≡ take l (drop k xs)
set_after k l xs i v h =
    ap (λ (j : ℕ). take l (drop k (set xs j v))) at ∙ ap (take l) (drop-set-add k xs (i - k) v) ∙ take-set-le l (drop k xs) (i - k) v (omega arith)
  where
    at : i ≡ k + (i - k)
    at = omega arith

set_before : (k l : ℕ) (xs : List ℤ) (i : ℕ) (v : ℤ) → i < k → take l (drop k (set xs i v)) ≡ take l (drop k xs)
set_before k l xs i v h = ap (take l) (drop-set-lt k xs i v h)

module _ (ns : List Net) (xs : List ℤ) (e a b d : ℕ) (le : e < length ns) (la : a < length (net_at ns e).pins) (lb : b < length (net_at ns e).pins) where
  abbrev pushed : List ℤ
  pushed = push xs (start ns e + a) (start ns e + b) d

  pub numbers_same : numbers ns pushed e ≡ push (numbers ns xs e) a b d
  unfolding push
  numbers_same =
      ap (take (length (net_at ns e).pins)) (drop_add_at (start ns e) (add xs (start ns e + a) (pos d)) b (neg_ℤ (pos d)) ∙ ap (λ (l : List ℤ). add l b (neg_ℤ (pos d))) (drop_add_at (start ns e) xs a (pos d)))
      ∙ take-add-lt (length (net_at ns e).pins) (add (drop (start ns e) xs) a (pos d)) b (neg_ℤ (pos d)) lb
      ∙ ap (λ (l : List ℤ). add l b (neg_ℤ (pos d))) (take-add-lt (length (net_at ns e).pins) (drop (start ns e) xs) a (pos d) la)

  pub numbers_other : (k : ℕ) → k < length ns → k ≢ e → numbers ns pushed k ≡ numbers ns xs k
  unfolding push
  numbers_other k lk ne = go (ltb k e) (ltb→lt k e) (nltb→le k e)
    where
      i : ℕ
      i = start ns e + a

      j : ℕ
      j = start ns e + b

      go : (t : Bool) → (T t → k < e) → (T (not t) → e ≤ k) → numbers ns pushed k ≡ numbers ns xs k
      go true f g =
          set_after (start ns k) (length (net_at ns k).pins) (add xs i (pos d)) j (get_or (add xs i (pos d)) j (pos 0) +ℤ neg_ℤ (pos d)) (omega (arith, start_mono ns k e (f tt) le))
          ∙ set_after (start ns k) (length (net_at ns k).pins) xs i (get_or xs i (pos 0) +ℤ pos d) (omega (arith, start_mono ns k e (f tt) le))
      go false f g =
          set_before (start ns k) (length (net_at ns k).pins) (add xs i (pos d)) j (get_or (add xs i (pos d)) j (pos 0) +ℤ neg_ℤ (pos d)) (omega (arith, start_mono ns e k (omega (arith, g tt)) lk))
          ∙ set_before (start ns k) (length (net_at ns k).pins) xs i (get_or xs i (pos 0) +ℤ pos d) (omega (arith, start_mono ns e k (omega (arith, g tt)) lk))

  -- what holds of each net's numbers, and of those of net e after the push, holds of each after
  pub push_number : (P : ℕ → Net → List ℤ → Type 0) → ((k : ℕ) → k < length ns → P k (net_at ns k) (numbers ns xs k)) → P e (net_at ns e) (push (numbers ns xs e) a b d) →
      (k : ℕ) → k < length ns → P k (net_at ns k) (numbers ns pushed k)
  push_number P h p k lk = go (ℕ_discrete k e)
    where
      go : Dec (k ≡ e) → P k (net_at ns k) (numbers ns pushed k)
      go (yes q) = rw (q, numbers_same) p
      go (no q) = rw (numbers_other k lk q) (h k lk)

  pub push_nets : (P : Net → List ℤ → Type 0) → EachNet P ns xs → P (net_at ns e) (push (numbers ns xs e) a b d) → EachNet P ns pushed
  push_nets P h p = each_from P ns pushed (push_number (λ k. P) (each_at P ns xs h) p)

  pub push_nets_by : (P : ℕ → Net → List ℤ → Type 0) → EachBy P ns xs → P e (net_at ns e) (push (numbers ns xs e) a b d) → EachBy P ns pushed
  push_nets_by P h p = each_by_from P ns pushed (push_number P (each_by_at P ns xs h) p)

  module _ (long : length (all_pins ns) ≤ length xs) where
    pub full : length (numbers ns xs e) ≡ length (net_at ns e).pins
    full = length-take-le (length (net_at ns e).pins) (drop (start ns e) xs) (rw (length-drop (start ns e) xs) (omega (arith, start_in ns e le)))

    li : start ns e + a < length (all_pins ns)
    li = omega (arith, start_in ns e le)

    lj : start ns e + b < length (all_pins ns)
    lj = omega (arith, start_in ns e le)

    -- at a side: d more where a's module is in it, and d less where b's is
    pub push_flow : (s : Side) → flow_at s (all_pins ns) pushed
        ≡ (flow_at s (all_pins ns) xs +ℤ cond (s (get_or (net_at ns e).pins a 0)) (pos d) (pos 0)) +ℤ cond (s (get_or (net_at ns e).pins b 0)) (neg_ℤ (pos d)) (pos 0)
    unfolding push
    push_flow s =
        flow_at-add s (all_pins ns) (add xs (start ns e + a) (pos d)) (start ns e + b) (neg_ℤ (pos d)) lj (rw (length-set xs (start ns e + a) (get_or xs (start ns e + a) (pos 0) +ℤ pos d)) (omega (arith, lj)))
        ∙ ap₂ (λ (x y : ℤ). x +ℤ y)
        (flow_at-add s (all_pins ns) xs (start ns e + a) (pos d) li (omega (arith, li)) ∙ ap (λ (p : ℕ). flow_at s (all_pins ns) xs +ℤ cond (s p) (pos d) (pos 0)) (pin_at ns e le a la))
        (ap (λ (p : ℕ). cond (s p) (neg_ℤ (pos d)) (pos 0)) (pin_at ns e le b lb))

  pub push-length : length pushed ≡ length xs
  unfolding push
  push-length =
      length-set (add xs (start ns e + a) (pos d)) (start ns e + b) (get_or (add xs (start ns e + a) (pos d)) (start ns e + b) (pos 0) +ℤ neg_ℤ (pos d))
      ∙ length-set xs (start ns e + a) (get_or xs (start ns e + a) (pos 0) +ℤ pos d)
