-- The walk as a loop: after the rows so far it stands at some marks (`Stands`); a round takes it on and leaves fewer modules free (`round_goes`, `round_measure`), or makes a walk of the rows
-- (`round_stops`, `round_ends`); and there is always room for a row (`stands_room`). Assumes nothing.
use Rattle.std.specs.Prelude.{◌≡◌, ℕ, ◌+◌, ◌<◌, ◌≤◌, List, [], ◌∷◌, ◌++◌, length}
use mathlib.Core.Path.{refl, sym, ap, ◌∙◌, subst}
use mathlib.Core.List.{append_assoc}
use native.Mathlib.Omega.{arith}
use lib.ListN.{length-append}
use Rattle.line.specs.Card.{Card, Side, Near, Alike, remark}
use Rattle.line.proofs.Duality.{Valid}
use Rattle.book.specs.First.{first}
use Rattle.gate.specs.declared.Verdict.{Verdict}
use Rattle.walk.specs.Walk.{Way, Turn, Stops, Takes, Ends, Row, Outcome, found, none_left, turn, Round, after_turn, row, after, free_to, Walks, stop, go, end}
use Rattle.walk.proofs.Rounds.{meet, near_same, turn_same, after_same, free_to_same, round_less}

-- after the rows so far the marks stand at k
pub data Stands (c : Card) (area : ℕ → ℕ) (v : ℕ → Verdict) (first : ℕ → ℕ) : List Row → (ℕ → ℕ) → Type 0 where
  start : Stands c area v first [] first
  next : {rows : List Row} {k : ℕ → ℕ} → Stands c area v first rows k → (x : Side) (w : Way) (m : ℕ) → Near (remark c k) x → turn c area v k x ≡ Takes w m →
      (l : ℕ → ℕ) → Alike c.modules (after w m x k) l → Stands c area v first (rows ++ (row c area x (Takes w m) ∷ [])) l

module _ (c : Card) (valid : Valid c) (area : ℕ → ℕ) (v : ℕ → Verdict) where
  pub walks_marks : {j : ℕ → ℕ} {rs : List Row} {o : Outcome} → Walks c area v j rs o → (k : ℕ → ℕ) → Alike c.modules j k → Walks c area v k rs o
  walks_marks {j} (stop x p f) k e = let q = near_same c j k e x p in stop x q (sym (turn_same c area j k x x (meet c valid area j k e x x p q) v) ∙ f)
  walks_marks {j} (go x w m p f a) k e =
      let q = near_same c j k e x p in
      go x w m q (sym (turn_same c area j k x x (meet c valid area j k e x x p q) v) ∙ f)
      (walks_marks a (after w m x k) (after_same w m c.modules x x j k (λ i l. refl) e))
  walks_marks {j} (end x p f) k e = let q = near_same c j k e x p in end x q (sym (turn_same c area j k x x (meet c valid area j k e x x p q) v) ∙ f)

  -- what is walked from there on, behind the rows so far, is a walk from the start
  pub stands_walks : {first : ℕ → ℕ} {rows : List Row} {k : ℕ → ℕ} → Stands c area v first rows k → (more : List Row) (o : Outcome) → Walks c area v k more o →
      Walks c area v first (rows ++ more) o
  stands_walks start more o a = a
  stands_walks (next {rows = rows} {k = k} s x w m p e l d) more o a =
      rw (append_assoc rows (row c area x (Takes w m) ∷ []) more)
      (stands_walks s (row c area x (Takes w m) ∷ more) o (go x w m p e (walks_marks a (after w m x k) (λ i h. sym (d i h)))))

  module _ (first : ℕ → ℕ) (rows : List Row) (k : ℕ → ℕ) (s : Stands c area v first rows k) (x : Side) (r : Row) (l : ℕ → ℕ) (h : Round c area v k x r l) where
    turned : r.turn ≡ turn c area v k x
    turned = ap (λ (r : Row). r.turn) h.written

    module _ (t : Turn) (z : r.turn ≡ t) where
      is_turn : turn c area v k x ≡ t
      is_turn = sym turned ∙ z

      is_row : r ≡ row c area x t
      is_row = h.written ∙ ap (row c area x) is_turn

      is_after : Alike c.modules (after_turn t x k) l
      is_after = subst (λ (t : Turn). Alike c.modules (after_turn t x k) l) is_turn h.marks

    -- by the turn in its row, a round stops the walk, ends it, or takes it on
    pub round_stops : r.turn ≡ Stops → Walks c area v first (rows ++ (r ∷ [])) (found x)
    round_stops z = rw (is_row Stops z) (stands_walks s (row c area x Stops ∷ []) (found x) (stop x h.near (is_turn Stops z)))

    pub round_ends : r.turn ≡ Ends → Walks c area v first (rows ++ (r ∷ [])) none_left
    round_ends z = rw (is_row Ends z) (stands_walks s (row c area x Ends ∷ []) none_left (end x h.near (is_turn Ends z)))

    module _ (w : Way) (m : ℕ) (z : r.turn ≡ Takes w m) where
      pub round_goes : Stands c area v first (rows ++ (r ∷ [])) l
      round_goes = rw (is_row (Takes w m) z) (next s x w m h.near (is_turn (Takes w m) z) l (is_after (Takes w m) z))

      pub round_measure : free_to l c.modules < free_to k c.modules
      round_measure = omega (arith, round_less c area v k x w m (is_turn (Takes w m) z), free_to_same (after w m x k) l c.modules (is_after (Takes w m) z))

-- each row so far has used up a free module: there is room for one more
pub stands_room : (c : Card) (area : ℕ → ℕ) (v : ℕ → Verdict) (first : ℕ → ℕ) (rows : List Row) (k : ℕ → ℕ) → Stands c area v first rows k →
    length rows + free_to k c.modules ≤ free_to first c.modules
stands_room c area v first _ _ start = omega arith
stands_room c area v first _ l (next {rows = rows} {k = k} s x w m p e _ d) =
    omega (
      arith,
      stands_room c area v first rows k s,
      length-append rows (row c area x (Takes w m) ∷ []),
      round_less c area v k x w m e,
      free_to_same (after w m x k) l c.modules d,
    )
