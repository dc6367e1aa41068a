-- What the engine makes of the slices loaded from a sound book is the split of its card. Assumes nothing.
use Rattle.std.specs.Prelude.{◌≡◌, ℕ, ◌+◌, ◌<◌, ◌≤◌, List, ◌++◌, length, take, get_or, ℤ, pos}
use mathlib.Core.Path.{refl, sym, ap, subst, ◌∙◌}
use native.Mathlib.Omega.{arith}
use lib.Seq.{take_at}
use Rattle.line.specs.Card.{Alike}
use Rattle.line.proofs.Search.{Still}
use Rattle.book.specs.Format.{modules, nets, pins, mark, weight, pin}
use Rattle.book.specs.Listed.{listed}
use Rattle.book.specs.Sound.{Sound}
use Rattle.book.specs.Cards as book
use Rattle.book.proofs.Elements.{length_listed, get_or_listed}
use Rattle.side.specs.Sides.{side_of, bytes_for}
use Rattle.flow.specs.Board.{board_card}
use Rattle.flow.specs.Build.{Buildable, Built}
use Rattle.flow.specs.Cards.{card_of}
use Rattle.flow.specs.Search.{Tables}
use Rattle.flow.specs.declared.board.Board.{Board}
use Rattle.flow.proofs.Raised.{zeros_fair}
use Rattle.split.specs.Boards.{Tabled, Lends}
use Rattle.split.specs.Solved.{Slices, Begins, Solved}
use Rattle.split.proofs.SameCard.{firsts_of, mods_of, weights_of, slices_laid, near_slices, far_slices, fair_slices, value_slices, price_slices}

abbrev pub marks_of : List ℕ → List ℕ
marks_of s = listed (mark s) (modules s)

-- what is listed at the front of an array
longs : (xs : List ℕ) (f : ℕ → ℕ) (k : ℕ) → xs ≡ listed f k → length xs ≡ k
longs xs f k e = ap (λ (l : List ℕ). length l) e ∙ length_listed f k

module _ (s : List ℕ) (h : Sound s) where
  long : length (marks_of s) ≡ modules s
  long = length_listed (mark s) (modules s)

  alike : Alike (modules s) (λ m. get_or (marks_of s) m 0) (mark s)
  alike m l = get_or_listed (mark s) (modules s) m 0 l

  -- with any marks, one a module and at most 2
  pub slices_of : (fs ms ws mk : List ℕ) → fs ≡ firsts_of s → ms ≡ mods_of s → ws ≡ weights_of s → length mk ≡ modules s → ((m : ℕ) → m < modules s → get_or mk m 0 ≤ 2) → Slices fs ms ws mk
  slices_of fs ms ws mk a b d n low = rw (a, b, d) (record {
    laid = slices_laid s h mk (λ m. get_or mk m 0) n (λ m i. refl) low;
    few_modules = omega (arith, n, h.few_modules);
    few_nets = omega (arith, length_listed (weight s) (nets s), h.few_nets);
    few_pins = omega (arith, length_listed (pin s) (pins s), h.few_pins);
  })

  slices_loaded : (fs ms ws mk : List ℕ) → fs ≡ firsts_of s → ms ≡ mods_of s → ws ≡ weights_of s → mk ≡ marks_of s → Slices fs ms ws mk
  slices_loaded fs ms ws mk a b d e = rw e (slices_of fs ms ws (marks_of s) a b d long (λ m i. omega (arith, alike m i, h.mark_low m i)))

  pub below_loaded : (ms : List ℕ) → ms ≡ mods_of s → (p : ℕ) → p < length ms → get_or ms p 0 < modules s
  below_loaded ms e p l = rw (← long) ((slices_loaded (firsts_of s) ms (weights_of s) (marks_of s) refl e refl refl).laid.below p l)

  begins_loaded : (fs ms ws mk near far : List ℕ) (fl : List ℤ) → ms ≡ mods_of s → mk ≡ marks_of s → Still fl → length fl ≡ pins s →
      bytes_for (modules s) ≤ length near → bytes_for (modules s) ≤ length far → Begins (card_of fs ms ws mk) ms near far fl
  unfolding card_of
  begins_loaded fs ms ws mk near far fl b e z l n f = record {
    fair = zeros_fair (card_of fs ms ws mk) fl z;
    long = omega (arith, l, ap (λ (x : List ℕ). length x) b, length_listed (pin s) (pins s));
    rooms = record { for_near = omega (arith, n, ap (λ (x : List ℕ). length x) e, long); for_far = omega (arith, f, ap (λ (x : List ℕ). length x) e, long) };
  }

  solved_slices : (near₀ far₀ near far : List ℕ) (fl : List ℤ) → Solved (card_of (firsts_of s) (mods_of s) (weights_of s) (marks_of s)) near₀ far₀ near far fl → Solved (book.card_of s) near₀ far₀ near far fl
  unfolding card_of
  solved_slices near₀ far₀ near far fl q = record {
    near_row = rw long at q.near_row;
    far_row = rw long at q.far_row;
    near_side = near_slices s h (marks_of s) (mark s) long alike (side_of near) q.near_side;
    far_side = far_slices s h (marks_of s) (mark s) long alike (side_of far) q.far_side;
    fair = fair_slices s h (marks_of s) (mark s) long alike fl q.fair;
    value = sym (value_slices s h (marks_of s) (mark s) long alike fl) ∙ q.value ∙ ap pos (price_slices s h (marks_of s) (mark s) long alike (side_of near));
    small = q.small;
  }

  -- ---- a board of the book, with the book's marks

  module _ (b : Board) (l : Lends s b × (b.mark.now ≡ marks_of s)) where
    pub slices_lent : Slices b.first.now b.mods.now b.weight.now b.mark.now
    slices_lent = slices_loaded _ _ _ _ l.0.firsts l.0.mods l.0.weights l.1

    pub begins_lent : (near far : List ℕ) (fl : List ℤ) → Still fl → length fl ≡ pins s → bytes_for (modules s) ≤ length near → bytes_for (modules s) ≤ length far →
        Begins (board_card b) b.mods.now near far fl
    begins_lent near far fl = begins_loaded _ _ _ _ near far fl l.0.mods l.1

    pub solved_lent : (near₀ far₀ near far : List ℕ) (fl : List ℤ) → Solved (board_card b) near₀ far₀ near far fl → Solved (book.card_of s) near₀ far₀ near far fl
    solved_lent near₀ far₀ near far fl q = solved_slices near₀ far₀ near far fl (rw (l.0.firsts, l.0.mods, l.0.weights, l.1) at q)

  -- ---- the tables of the loaded slices

  module _ (fs ms ws nt at pl : List ℕ) (a : fs ≡ firsts_of s) (b : ms ≡ mods_of s) (d : ws ≡ weights_of s) (n : length nt ≡ pins s) (m : length at ≡ modules s + 1) (p : length pl ≡ pins s) where
    pub buildable : Buildable fs ms ws (marks_of s) nt at pl
    buildable =
        let g = slices_loaded fs ms ws (marks_of s) a b d refl in
        let k : length ms ≡ pins s = ap (λ (l : List ℕ). length l) b ∙ length_listed (pin s) (pins s) in
        record {
          laid = g.laid;
          pins = omega (arith, g.few_pins);
          nets = omega (arith, g.few_nets);
          named = n ∙ sym k;
          starts = omega (arith, m, long);
          placed = omega (arith, k, p);
        }

    -- at the fronts of their arrays
    pub tables_built : (fa ma wa nt' at' pl' n' m' p' : List ℕ) → take (nets s + 1) fa ≡ fs → take (pins s) ma ≡ ms → take (nets s) wa ≡ ws →
        length nt' ≡ length nt → length at' ≡ length at → length pl' ≡ length pl → Built fs ms ws nt at pl nt' at' pl' →
        Tabled s fa ma wa (nt' ++ n') (at' ++ m') (pl' ++ p')
    tables_built fa ma wa nt' at' pl' n' m' p' e f g x y z t =
        rw (e, f, g, take_at nt' n' (pins s) (x ∙ n), take_at at' m' (modules s + 1) (y ∙ m), take_at pl' p' (pins s) (z ∙ p))
        (subst (λ (k : ℕ). Tables fs ms ws nt' at' pl' k) long (t (marks_of s) buildable))
