-- The modules with a pin on a net that X cuts, net by net and pin by pin as a row of bits is filled: it is cleared (`cleared`), what is put on adds up (`adds_then`), the modules
-- of a net are put on (`net_next`), and of each net that is cut (`cut_next`, `cut-row`). Assumes nothing.
use Rattle.std.specs.Prelude.{◌≡◌, ℕ, ◌+◌, ◌/◌, ◌%◌, ◌^◌, ◌<◌, Bool, true, false, ◌&&◌, ◌||◌, eqb, ltb, List, length, get_or, take, replicate}
use mathlib.Core.Path.{refl, sym, ap, ◌∙◌}
use mathlib.Core.Bool.{or_assoc, or-false}
use native.Mathlib.Numerals.{add-one}
use native.Mathlib.Omega.{arith}
use native.Mathlib.Decide.{ℕ_discrete}
use native.Mathlib.Nat.{zero-div}
use lib.ListN.{length-set, length-replicate, get_or-replicate, get_or-eq_default}
use lib.Seq.{take_all}
use borrow.Author.Tests.{eq-eqb, ne_eqb, ltb-true, ltb-false}
use Rattle.line.specs.Card.{Net, Side, touches, crosses}
use Rattle.line.specs.Flow.{only}
use Rattle.book.specs.Format.{nets, pin_count}
use Rattle.book.specs.Cards.{nets_of, pin_of, pins_of}
use Rattle.book.proofs.CardLaws.{nets-length, net-at, touches_start, touches_next, touches_all}
use Rattle.side.specs.Sides.{side_of, with_bit}
use Rattle.side.proofs.Puts.{put_side}
use Rattle.walk.specs.Walk.{on_cut}
use Rattle.walk.specs.Parts.{Cleared, Adds, on_net, on_cut_net, CutRow}
use Rattle.walk.proofs.Rounds.{on_cut-suc}

zero_bit : (j : ℕ) → 0 / 2 ^ j % 2 ≡ 0
zero_bit j = ap (λ (x : ℕ). x % 2) (zero-div (2 ^ j))

-- every byte is 0
pub cleared : (old : List ℕ) → Cleared old (replicate (length old) 0)
cleared old = record {
  long = length-replicate (length old) 0;
  clear = λ m. ap (λ (b : ℕ). eqb (b / 2 ^ (m % 8) % 2) 1) (all (m / 8)) ∙ ap (λ (b : ℕ). eqb b 1) (zero_bit (m % 8));
}
  where
    all : (i : ℕ) → ◌≡◌ {A = ℕ} (get_or (replicate (length old) 0) i 0) 0
    all i = go (ltb i (length old)) refl
      where
        go : (b : Bool) → ltb i (length old) ≡ b → ◌≡◌ {A = ℕ} (get_or (replicate (length old) 0) i 0) 0
        go true u = get_or-replicate (length old) i 0 0 (ltb-true i (length old) u)
        go false u = get_or-eq_default (replicate (length old) 0) 0 (omega (arith, length-replicate {A = ℕ} (length old) 0, ltb-false i (length old) u))

eqb_swap : (a b : ℕ) → eqb a b ≡ eqb b a
eqb_swap a b = go (ℕ_discrete a b)
  where
    go : Dec (a ≡ b) → eqb a b ≡ eqb b a
    go (yes e) = eq-eqb a b e ∙ sym (eq-eqb b a (sym e))
    go (no n) = ne_eqb a b n ∙ sym (ne_eqb b a (λ e. n (sym e)))

-- nothing was put on
pub adds_none : (y : Side) (l : List ℕ) → ((m : ℕ) → y m ≡ false) → Adds y l l
adds_none y l e = record { long = refl; side = λ m. sym (ap (λ (b : Bool). side_of l m || b) (e m) ∙ or-false (side_of l m)) }

pub adds_same : (y z : Side) (old l : List ℕ) → Adds y old l → ((m : ℕ) → y m ≡ z m) → Adds z old l
adds_same y z old l h e = record { long = h.long; side = λ m. h.side m ∙ ap (λ (b : Bool). side_of old m || b) (e m) }

-- and then more
pub adds_then : (y z w : Side) (old l k : List ℕ) → Adds y old l → Adds z l k → ((m : ℕ) → w m ≡ (y m || z m)) → Adds w old k
adds_then y z w old l k g h e = record {
  long = h.long ∙ g.long;
  side = λ m. h.side m ∙ ap (λ (b : Bool). b || z m) (g.side m) ∙ or_assoc (side_of old m) (y m) (z m) ∙ ap (λ (b : Bool). side_of old m || b) (sym (e m));
}

pub adds_one : (l : List ℕ) (p : ℕ) → p / 8 < length l → Adds (only p) l (with_bit l p)
adds_one l p h = record { long = length-set l (p / 8) _; side = put_side l p h }

-- one more pin of net n
pub net_start : (s : List ℕ) (n : ℕ) (l : List ℕ) → Adds (λ m. touches (only m) (take 0 (pins_of s n))) l l
net_start s n l = adds_none (λ m. touches (only m) (take 0 (pins_of s n))) l (λ m. touches_start s (only m) n)

pub net_next : (s : List ℕ) (n j : ℕ) (old l k : List ℕ) (p : ℕ) → j < pin_count s n → p ≡ pin_of s n j → p / 8 < length l → k ≡ with_bit l p →
    Adds (λ m. touches (only m) (take j (pins_of s n))) old l → Adds (λ m. touches (only m) (take (j + 1) (pins_of s n))) old k
net_next s n j old l k p u e h q a =
    rw q
    (adds_then (λ m. touches (only m) (take j (pins_of s n))) (only p) (λ m. touches (only m) (take (j + 1) (pins_of s n))) old l (with_bit l p) a (adds_one l p h)
    (λ m.
    touches_next s (only m) n j u ∙ ap (λ (b : Bool). touches (only m) (take j (pins_of s n)) || b) (ap (λ (i : ℕ). eqb i m) (sym e) ∙ eqb_swap p m)))

pub net_all : (s : List ℕ) (n j : ℕ) (old l : List ℕ) → j ≡ pin_count s n → Adds (λ m. touches (only m) (take j (pins_of s n))) old l → Adds (on_net s n) old l
net_all s n j old l e a =
    adds_same (λ m. touches (only m) (take j (pins_of s n))) (on_net s n) old l a
    (λ m. ap (λ (i : ℕ). touches (only m) (take i (pins_of s n))) e ∙ touches_all s (only m) n)

-- net by net
pub cut_start : (s : List ℕ) (x : Side) (l : List ℕ) → Adds (on_cut (take 0 (nets_of s)) x) l l
unfolding on_cut
cut_start s x l = adds_none (on_cut (take 0 (nets_of s)) x) l (λ m. refl)

pub cut_next : (s : List ℕ) (x : Side) (n : ℕ) (old l k : List ℕ) → n < nets s → Adds (on_cut (take n (nets_of s)) x) old l → Adds (on_cut_net s x n) l k →
    Adds (on_cut (take (n + 1) (nets_of s)) x) old k
cut_next s x n old l k u a b =
    adds_then (on_cut (take n (nets_of s)) x) (on_cut_net s x n) (on_cut (take (n + 1) (nets_of s)) x) old l k a b
    (λ m.
    rw (add-one n)
    (on_cut-suc (nets_of s) x m n (omega (arith, nets-length s))
    ∙ ap (λ (e : Net). on_cut (take n (nets_of s)) x m || (crosses x e && touches (only m) e.pins)) (net-at s n u)))

pub cut-row : (s : List ℕ) (x : Side) (n : ℕ) (old l k : List ℕ) → n ≡ nets s → Cleared old l → Adds (on_cut (take n (nets_of s)) x) l k → CutRow s x old k
cut-row s x n old l k e c a = record {
  long = a.long ∙ c.long;
  cut = λ m. a.side m ∙ ap (λ (b : Bool). b || on_cut (take n (nets_of s)) x m) (c.clear m)
      ∙ ap (λ (ns : List Net). on_cut ns x m) (take_all n (nets_of s) (omega (arith, nets-length s)));
}
