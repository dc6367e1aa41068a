-- From what the parts of a round ensure to the round. Assumes nothing.
use Rattle.std.specs.Prelude.{◌≡◌, ℕ, ◌<◌, ◌≤◌, Bool, true, ◌&&◌, List, length, get_or, ℤ, Some}
use mathlib.Core.Path.{refl, sym, ap, ap₂, ◌∙◌, subst}
use native.Mathlib.Omega.{arith}
use Rattle.line.specs.Card.{Side, Alike, outside, either, price, remark}
use Rattle.line.specs.Flow.{only, Fair}
use Rattle.line.proofs.Below.{near_alike}
use Rattle.line.proofs.Search.{Still}
use Rattle.book.specs.Checks.{most_modules}
use Rattle.book.specs.First.{or_else, lowest}
use Rattle.book.specs.Format.{modules, pins, pin}
use Rattle.book.specs.Sound.{Sound}
use Rattle.book.specs.Cards as book
use Rattle.book.proofs.Firsts.{lowest_same}
use Rattle.book.proofs.Elements.{length_listed}
use Rattle.side.specs.Sides as sides
use Rattle.side.specs.Sides.{bytes_for}
use Rattle.side.specs.Prices.{most_area}
use Rattle.flow.specs.Cards.{card_of, side_of, Laid}
use Rattle.flow.specs.Raise.{Raised}
use Rattle.flow.specs.Board.{board_card}
use Rattle.flow.specs.declared.board.Board.{Board}
use Rattle.flow.proofs.CardLaws.{card_valid}
use Rattle.flow.proofs.Raised.{zeros_fair}
use Rattle.gate.specs.Gates.{band_says}
use Rattle.gate.specs.declared.Band.{Band}
use Rattle.gate.specs.declared.Verdict.{Verdict}
use Rattle.split.specs.Writes.{Written}
use Rattle.split.specs.Boards.{Lends}
use Rattle.split.specs.Solved.{Slices}
use Rattle.split.proofs.Loaded.{slices_of}
use Rattle.split.proofs.SameCard.{near_slices}
use Rattle.walk.specs.Walk.{Way, Meter, Maker, Turn, Stops, Takes, Row, number, on_cut, free_in, choice, decide, turn, after}
use Rattle.walk.specs.Parts.{side_from, marks_of, free_in_row, choice_in, CutRow, Pinned}
use Rattle.walk.specs.Work.{NearRow, Marked, is_meter, Pins, turn_of, Stepped, OneRound}
use Rattle.walk.proofs.Rounds.{choice_taken, after_three}

-- ---- the near side

pub near_row : (fs ms ws mk : List ℕ) → Laid fs ms ws mk → (sm how x₀ x : List ℕ) (fl : List ℤ) → length how ≡ length mk → Raised (card_of fs ms ws mk) ms sm fl (side_of how) →
    Written how true (length how) x₀ x → NearRow (card_of fs ms ws mk) x₀ x
unfolding card_of
near_row fs ms ws mk laid sm how x₀ x fl e raised w =
    let a : Alike (length mk) (side_of how) (sides.side_of x) = λ m l. sym (w.side m (omega (arith, e))) in
    record {
      long = w.long;
      near = near_alike (card_of fs ms ws mk) (card_valid fs ms ws mk laid) (side_of how) (sides.side_of x) a raised.near;
      spare = subst (λ (n : ℕ). sides.SpareClear x n) e w.spare;
    }

-- ---- the module taken

pub choice_row : (s k : List ℕ) (x y : Side) (old cut : List ℕ) → length k ≡ modules s → CutRow s x old cut → choice_in k y cut ≡ choice (book.card_of s) (marks_of k) x y
unfolding choice
choice_row s k x y old cut e c =
    ap₂ or_else
    (ap (lowest (free_in_row k y cut)) e
    ∙ lowest_same (free_in_row k y cut) (λ m. free_in (marks_of k) y m && on_cut (book.nets_of s) x m) (modules s) (λ m l. ap (λ (b : Bool). free_in (marks_of k) y m && b) (c.cut m)))
    (ap (lowest (free_in (marks_of k) y)) e)

-- ---- the marks after

way_marks : (w : Way) (s k l : List ℕ) (x : Side) (m : ℕ) → length k ≡ modules s → Pinned (number w) (either (side_from (is_meter w) x) (only m)) (length k) k l →
    Alike (modules s) (after w m x (marks_of k)) (marks_of l)
way_marks Meter s k l x m e p i u = sym (p.done i (omega (arith, e)))
way_marks Maker s k l x m e p i u = sym (p.done i (omega (arith, e)))

module _ (s k : List ℕ) (x : Side) (marked : Marked s k) where
  pub takes_pins : (w : Way) (l : List ℕ) (m : ℕ) → Pinned (number w) (either (side_from (is_meter w) x) (only m)) (length k) k l → Pins s k x (Takes w m) l
  takes_pins w l m p =
      let a : Alike (modules s) (after w m x (marks_of k)) (marks_of l) = way_marks w s k l x m marked.long p in
      record {
        marks = a;
        marked = record { long = p.long ∙ marked.long; low = λ i u. subst (λ (n : ℕ). n ≤ 2) (a i u) (after_three w m x (marks_of k) i (marked.low i u)) };
      }

  pub stops_pins : Pins s k x Stops k
  stops_pins = record { marks = λ i u. refl; marked = marked }

pub taken_small : (s : List ℕ) → Sound s → (k : List ℕ) (x y : Side) (m : ℕ) → choice (book.card_of s) (marks_of k) x y ≡ Some m → m < most_modules
taken_small s h k x y m e = omega (arith, (choice_taken (book.card_of s) (marks_of k) x y m e).under, h.few_modules)

-- ---- what the band says

pub stepped : {s k l : List ℕ} {x : Side} (band : Band) {p a : ℕ} {w : Verdict} {t : Turn} → p ≡ price (book.nets_of s) x → a ≡ book.area_of s x → a ≤ most_area → w ≡ band_says band a →
    t ≡ decide w (choice (book.card_of s) (marks_of k) x (outside x)) (choice (book.card_of s) (marks_of k) x x) → Pins s k x t l → Stepped s band k x (record { price = p; area = a; turn = t }) l
unfolding turn
stepped {s} {k} {l} {x} band {a = a} {t = t} e f small said d q v h =
    let g : t ≡ turn_of s v k x = d ∙ ap (λ (u : Verdict). decide u (choice (book.card_of s) (marks_of k) x (outside x)) (choice (book.card_of s) (marks_of k) x x)) (said ∙ h a small ∙ ap v f) in
    record { row = λ i. record { price = e i; area = f i; turn = g i }; pins = subst (λ (t : Turn). Pins s k x t l) g q }

-- ---- the round

-- a board with a book's numbers and the marks mk
module _ (s mk : List ℕ) (sound : Sound s) (marked : Marked s mk) (b : Board) (l : Lends s b) (e : b.mark.now ≡ mk) where
  alike : Alike (modules s) (λ m. get_or mk m 0) (marks_of mk)
  alike m l = refl

  pub slices : Slices b.first.now b.mods.now b.weight.now b.mark.now
  slices = slices_of s sound _ _ _ _ l.firsts l.mods l.weights (ap length e ∙ marked.long) (rw e marked.low)

  pub near_room : (fl : List ℤ) (x : List ℕ) → Still fl → length fl ≡ pins s → bytes_for (modules s) ≤ length x →
      Slices b.first.now b.mods.now b.weight.now b.mark.now × Fair (board_card b) fl × (length fl ≡ length b.mods.now) × (bytes_for (length b.mark.now) ≤ length x)
  near_room fl x z p r = (slices, zeros_fair (board_card b) fl z, p ∙ sym (ap length l.mods ∙ length_listed (pin s) (pins s)), omega (arith, ap length e, marked.long, r))

  pub near_lent : (x₀ x : List ℕ) → NearRow (board_card b) x₀ x → NearRow (remark (book.card_of s) (marks_of mk)) x₀ x
  unfolding card_of
  near_lent x₀ x n = record {
    long = n.long;
    near = near_slices s sound mk (marks_of mk) marked.long alike (sides.side_of x) (rw (l.firsts, l.mods, l.weights, e) at n.near);
    spare = subst (λ (k : ℕ). sides.SpareClear x k) (ap length e ∙ marked.long) n.spare;
  }

pub one_round : (s mk : List ℕ) (band : Band) (x₀ x : List ℕ) (r : Row) (k : List ℕ) → NearRow (remark (book.card_of s) (marks_of mk)) x₀ x → Stepped s band mk (sides.side_of x) r k → OneRound s band mk x r k
one_round s mk band x₀ x r k n t = record {
  round = λ v h. let q = t v h in record { near = n.near; written = q.row; marks = q.pins.marks };
  spare = n.spare;
  marked = (t (band_says band) (λ a l. refl)).pins.marked;
}
