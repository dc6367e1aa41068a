-- The card that the arrays are, by number: its nets, their pins and where they begin. Assumes nothing.
use mathlib.Core.Path.{◌≡◌, refl, sym, ap, ◌∙◌, subst}
use mathlib.Core.Logic.{⊎_elim}
use mathlib.Core.List.{List, [], ◌∷◌, ◌++◌, Memᴰ}
use Prim.Native.Nat.{ℕ, zero, suc, ◌+◌, ◌-◌, ◌≤◌, ◌<◌}
use native.Mathlib.Nat.{le_of_suc-le-suc, not-suc-le-zero, zero-add, add-zero}
use native.Mathlib.Decide.{ℕ_discrete}
use native.Mathlib.Omega.{arith}
use lib.ListN.{length, take, drop, get_or, length-drop}
use lib.Seq.{length-take-le, take-length, drop-drop, take-add}
use Rattle.line.specs.Card.{Net, Card, all_pins}
use Rattle.line.proofs.Index.{net_at, start, start_mono, start_in}
use Rattle.line.proofs.WayFlow.{Valid}
use Rattle.flow.specs.Search.{Pin, Tables}
use Rattle.flow.specs.Cards.{nets_from, card_of, Laid, Grid}
use Rattle.flow.proofs.Pins.{split}

-- the nets of c, by the arrays
pub record Made (c : Card) (fs ms ws : List ℕ) : Type 0 where
  pub nets : length c.nets ≡ length ws
  pub weight : (e : ℕ) → e < length ws → (net_at c.nets e).weight ≡ get_or ws e 0
  pub first : (e : ℕ) → e < length ws → start c.nets e ≡ get_or fs e 0
  pub size : (e : ℕ) → e < length ws → get_or fs e 0 + length (net_at c.nets e).pins ≡ get_or fs (e + 1) 0
  pub pins : all_pins c.nets ≡ ms

plus_suc : (e k : ℕ) → e + suc k ≡ (e + 1) + k
plus_suc e k = omega arith

module _ (fs ms : List ℕ) where
  pub from-length : (e : ℕ) (ws : List ℕ) → length (nets_from fs ms e ws) ≡ length ws
  unfolding nets_from
  from-length e [] = refl
  from-length e (w ∷ ws) = ap suc (from-length (e + 1) ws)

  pub from_at : (e : ℕ) (ws : List ℕ) (k : ℕ) → k < length ws → net_at (nets_from fs ms e ws) k ≡ record { weight = get_or ws k 0; pins = take (get_or fs (e + k + 1) 0 - get_or fs (e + k) 0) (drop (get_or fs (e + k) 0) ms) }
  unfolding nets_from
  from_at e [] k l = absurd (not-suc-le-zero l)
  from_at e (w ∷ ws) zero l = rw (add-zero e)
  from_at e (w ∷ ws) (suc k) l = rw (plus_suc e k) (from_at (e + 1) ws k (le_of_suc-le-suc l))

  module _ (N : ℕ) (rises : (n : ℕ) → n < N → get_or fs n 0 ≤ get_or fs (n + 1) 0) where
    far : (e k : ℕ) → e + k ≤ N → get_or fs e 0 ≤ get_or fs (e + k) 0
    far e zero l = rw (add-zero e) (omega arith)
    far e (suc k) l = let x = far e k (omega arith) in let y = rises (e + k) (omega arith) in rw (add-one' e k) (omega arith)
      where
        add-one' : (e k : ℕ) → e + suc k ≡ e + k + 1
        add-one' e k = omega arith

    module _ (ends : get_or fs N 0 ≡ length ms) where
      pub first_below : (e : ℕ) → e ≤ N → get_or fs e 0 ≤ length ms
      first_below e l = let f : e + (N - e) ≡ N = omega arith in omega (arith, subst (λ (n : ℕ). get_or fs e 0 ≤ get_or fs n 0) f (far e (N - e) (omega arith)))

      pins-length : (e : ℕ) → e < N → length (take (get_or fs (e + 1) 0 - get_or fs e 0) (drop (get_or fs e 0) ms)) ≡ get_or fs (e + 1) 0 - get_or fs e 0
      pins-length e l = length-take-le (get_or fs (e + 1) 0 - get_or fs e 0) (drop (get_or fs e 0) ms) (rw (length-drop (get_or fs e 0) ms) (omega (arith, first_below (e + 1) (omega arith))))

      from_start : (e : ℕ) (ws : List ℕ) → e + length ws ≤ N → (k : ℕ) → k ≤ length ws → get_or fs e 0 + start (nets_from fs ms e ws) k ≡ get_or fs (e + k) 0
      unfolding nets_from start
      from_start e ws h zero l = rw (add-zero e) (omega arith)
      from_start e [] h (suc k) l = absurd (not-suc-le-zero l)
      from_start e (w ∷ ws) h (suc k) l =
          rw (plus_suc e k)
          (omega (arith, from_start (e + 1) ws (omega arith) k (le_of_suc-le-suc l), pins-length e (omega arith), rises e (omega arith)))

      from_pins : (e : ℕ) (ws : List ℕ) → e + length ws ≤ N → all_pins (nets_from fs ms e ws) ≡ take (get_or fs (e + length ws) 0 - get_or fs e 0) (drop (get_or fs e 0) ms)
      unfolding nets_from all_pins
      from_pins e [] h = rw (add-zero e, none (get_or fs e 0)) refl
        where
          none : (n : ℕ) → n - n ≡ 0
          none n = omega arith
      from_pins e (w ∷ ws) h =
          rw (from_pins (e + 1) ws (omega arith), plus_suc e (length ws))
          (let x = rises e (omega arith) in let y = far (e + 1) (length ws) (omega arith) in
          join (get_or fs e 0) (get_or fs (e + 1) 0) (get_or fs (e + 1 + length ws) 0) x y)
        where
          join : (a b c : ℕ) → a ≤ b → b ≤ c → take (b - a) (drop a ms) ++ take (c - b) (drop b ms) ≡ take (c - a) (drop a ms)
          join a b c h k =
              let e1 : b ≡ a + (b - a) = omega arith in
              let e2 : (b - a) + (c - b) ≡ c - a = omega arith in
              ap (λ (l : List ℕ). take (b - a) (drop a ms) ++ take (c - b) l) (ap (λ (i : ℕ). drop i ms) e1 ∙ sym (drop-drop (b - a) a ms))
              ∙ sym (take-add (b - a) (c - b) (drop a ms)) ∙ ap (λ (i : ℕ). take i (drop a ms)) e2

module _ (fs ms ws mk : List ℕ) (laid : Laid fs ms ws mk) where
  abbrev pub card : Card
  card = card_of fs ms ws mk

  N : ℕ
  N = length ws

  pub card_made : Made (card_of fs ms ws mk) fs ms ws
  unfolding card_of
  card_made = record {
    nets = from-length fs ms 0 ws;
    weight = λ e l. ap (λ (n : Net). n.weight) (from_at fs ms 0 ws e l);
    first = λ e l. let b = laid.begins in omega (arith, rw (zero-add e) at (from_start fs ms (length ws) laid.rises laid.ends 0 ws (omega arith) e (omega arith)));
    size = λ e l. let r = laid.rises e l in
        omega (arith, ap (λ (n : Net). length n.pins) (rw (zero-add e) at (from_at fs ms 0 ws e l)), pins-length fs ms (length ws) laid.rises laid.ends e l);
    pins = from_pins fs ms (length ws) laid.rises laid.ends 0 ws (omega arith) ∙ (let e : length ms - 0 ≡ length ms = omega arith in rw (zero-add (length ws), laid.begins, laid.ends, e) (take-length ms));
  }

  mem_below : (M m : ℕ) (ps : List ℕ) → ((p : ℕ) → p < length ps → get_or ps p 0 < M) → Memᴰ m ps → m < M
  mem_below M m ps h (Memᴰ.head e) = rw e (h 0 (omega arith))
  mem_below M m (q ∷ ps) h (Memᴰ.tail k) = mem_below M m ps (λ p l. h (suc p) (omega arith)) k

  pub card_valid : Valid (card_of fs ms ws mk)
  unfolding card_of
  card_valid = record {
    pins = λ m k. mem_below (length mk) m ms laid.below (subst (λ (l : List ℕ). Memᴰ m l) card_made.pins k);
    marks = laid.marks;
  }

  pub card_modules : (card_of fs ms ws mk).modules ≡ length mk
  unfolding card_of
  card_modules = refl

  pub card_mark : (m : ℕ) → (card_of fs ms ws mk).mark m ≡ get_or mk m 0
  unfolding card_of
  card_mark m = refl

-- the net of each pin
module _ (c : Card) (fs ms ws nt at pl : List ℕ) (M : ℕ) (made : Made c fs ms ws) (tables : Tables fs ms ws nt at pl M) where
  pub grid_of : Grid c ms nt
  grid_of = record {
    pins = made.pins;
    net = λ a l. let x = (tables.net a l).0 in let y = made.nets in omega arith;
    low = λ a l. let p = tables.net a l in let x = p.1.low in let y = made.first (get_or nt a 0) p.0 in omega arith;
    high = λ a l. let p = tables.net a l in let x = p.1.high in let y = made.first (get_or nt a 0) p.0 in let z = made.size (get_or nt a 0) p.0 in omega arith;
  }

-- only one net has a pin
pub grid_one : (c : Card) (ms nt : List ℕ) → Grid c ms nt → (e i : ℕ) → e < length c.nets → i < length (net_at c.nets e).pins → get_or nt (start c.nets e + i) 0 ≡ e
grid_one c ms nt g e i l k = go (ℕ_discrete n e)
  where
    p : ℕ
    p = start c.nets e + i

    n : ℕ
    n = get_or nt p 0

    lp : p < length ms
    lp = omega (arith, start_in c.nets e l, ap length g.pins)

    go : Dec (n ≡ e) → n ≡ e
    go (yes q) = q
    go (no q) = ⊎_elim
        (λ h. absurd (omega (arith, start_mono c.nets n e h l, g.high p lp)))
        (λ h. absurd (omega (arith, start_mono c.nets e n (omega (arith, q)) (g.net p lp), g.low p lp)))
        (split n e)

-- the net among whose pins a pin is, is the one that nt names
pub run_net : (c : Card) (fs ms ws nt : List ℕ) → Made c fs ms ws → Grid c ms nt → (n p : ℕ) → n < length ws → Pin (get_or fs n 0) (get_or fs (n + 1) 0) p → get_or nt p 0 ≡ n
run_net c fs ms ws nt made grid n p l on =
    let f = made.first n l in
    let z = made.size n l in
    let low = on.low in
    let high = on.high in
    let at : start c.nets n + (p - start c.nets n) ≡ p = omega arith in
    subst (λ (j : ℕ). get_or nt j 0 ≡ n) at (grid_one c ms nt grid n (p - start c.nets n) (omega (arith, l, made.nets)) (omega arith))
