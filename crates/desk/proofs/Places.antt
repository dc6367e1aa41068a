-- No refusal names a place beyond the most pins of a book, whichever call gives it: the first two of the eight numbers are small. Assumes nothing.
use Rattle.std.specs.Prelude.{Option, Some, None, Result, Ok, Err}
use Rattle.book.specs.declared.Book.{Book}
use Prim.Native.Nat.{ℕ, zero, suc, ◌+◌, ◌≤◌, ◌<◌}
use mathlib.Core.Path.{◌≡◌, refl, subst}
use mathlib.Core.Bool.{Bool, true, false, not}
use mathlib.Core.List.{List}
use native.Mathlib.Omega.{arith}
use lib.Dec.{leb, eqb}
use lib.IntN.{ℤ}
use borrow.Author.Tests.{leb-true, not-false}
use Rattle.line.proofs.Bools.{and_four}
use Rattle.book.specs.declared.Refusal.{Refusal}
use Rattle.book.specs.declared.Refusal.TheVariants.{Layout, Counts, Module, Net, Pin, Marks, Buffer, Side, Move, NetRule, ModuleRule, Values, Stuck}
use Rattle.book.specs.declared.Refusal.TheVariants as refusal
use Rattle.book.specs.Answer.{number_of, place_of}
use Rattle.book.specs.First.{first, lowest, find_if, or_else, from}
use Rattle.book.specs.Format.{modules, nets, pins, pin_count, first_pin}
use Rattle.book.specs.Cards.{card_of}
use Rattle.book.specs.Checks.{least_modules, most_modules, most_nets, most_pins, counted, bad_module, bad_net, bad_pin_of, bad_pins, check1, check2, check3, check4, check5, check6, refuse, book_of, rest_of, read_of}
use Rattle.book.proofs.Firsts.{passed, lowest_at}
use Rattle.book.proofs.Laid.{sum_right}
use Rattle.book.proofs.CardLaws.{pin_before}
use Rattle.book.proofs.Sound.{sound}
use Rattle.side.specs.Sides.{Bytes}
use Rattle.side.specs.Given as given
use Rattle.side.specs.Prices.{priced}
use Rattle.side.specs.Moves.{changed, RefusesMove, side, fixed}
use Rattle.side.proofs.Prices.{price_refuses}
use Rattle.side.proofs.Changes.{change_refuses}
use Rattle.audit.specs.Checker.{checked_of}
use Rattle.audit.specs.Verdicts as verdicts
use Rattle.audit.proofs.Answers.{refused_tells}
use Rattle.split.specs.Splits.{Buffers, Split}
use Rattle.split.specs.Verdicts as splits
use Rattle.split.proofs.Answers.{split_refused}
use Rattle.gate.specs.declared.Gate.{Gate}
use Rattle.gate.specs.Gates.{good_gate}
use Rattle.walk.specs.declared.Row.{Row}
use Rattle.walk.specs.Walk.{Outcome, found, none_left, answer}
use Rattle.walk.specs.Call.{too_short, refuse_if, if_read, checked_sound, Left, Comes, Walked}
use Rattle.walk.specs.Call as call

-- a refusal's number is one of fourteen
pub number_few : (why : Refusal) → number_of why ≤ 14
number_few Layout = omega arith
number_few Counts = omega arith
number_few (Module m) = omega arith
number_few (Net n) = omega arith
number_few (Pin p) = omega arith
number_few Marks = omega arith
number_few refusal.Gate = omega arith
number_few Buffer = omega arith
number_few Side = omega arith
number_few Move = omega arith
number_few (NetRule n) = omega arith
number_few (ModuleRule m) = omega arith
number_few Values = omega arith
number_few Stuck = omega arith

-- ---- the reader

-- where a search ends, if it finds anything
abbrev Within : ℕ → Option ℕ → Type 0
Within n f = (p : ℕ) → f ≡ Some p → p ≤ n

if_within : (t : Bool) (n : ℕ) → Within n (find_if t n)
if_within true n p e = let u : n ≡ p = cc in omega arith
if_within false n p e = let z : ◌≡◌ {A = ℕ} 0 1 = cc in absurd (omega arith)

else_within : (n : ℕ) (f g : Option ℕ) → Within n f → Within n g → Within n (or_else f g)
else_within n (Some i) g a b = a
else_within n None g a b = b

from_within : (n start : ℕ) (f : Option ℕ) → ((j : ℕ) → f ≡ Some j → start + j ≤ n) → Within n (from start f)
from_within n start (Some j) h p e = let u : start + j ≡ p = cc in omega (arith, h j refl)
from_within n start None h p e = let z : ◌≡◌ {A = ℕ} 0 1 = cc in absurd (omega arith)

first_within : (n : ℕ) (f : ℕ → Option ℕ) (m : ℕ) → ((k : ℕ) → k < m → Within n (f k)) → Within n (first f m)
unfolding first
first_within n f zero h p e = let z : ◌≡◌ {A = ℕ} 0 1 = cc in absurd (omega arith)
first_within n f (suc m) h p e = else_within n (first f m) (f m) (first_within n f m (λ k l. h k (omega arith))) (h m (omega arith)) p e

module _ (s : List ℕ) where
  module_within : Within (modules s) (check3 s)
  unfolding check3
  module_within p e = omega (arith, (lowest_at (bad_module s) (modules s) p e).0)

  net_within : Within (nets s) (check4 s)
  unfolding check4
  net_within =
      else_within (nets s) (lowest (bad_net s) (nets s)) (find_if (not (eqb (first_pin s (nets s)) (pins s))) (nets s))
      (λ p e. omega (arith, (lowest_at (bad_net s) (nets s) p e).0)) (if_within (not (eqb (first_pin s (nets s)) (pins s))) (nets s))

  pin_within : Within (first_pin s (nets s)) (check5 s)
  unfolding check5
  pin_within =
      first_within (first_pin s (nets s)) (bad_pins s) (nets s)
      (λ n l. from_within (first_pin s (nets s)) (first_pin s n) (lowest (bad_pin_of s n) (pin_count s n)) (λ j e. omega (arith, pin_before s n (nets s) j l (lowest_at (bad_pin_of s n) (pin_count s n) j e).0)))

  -- what check 2 leaves
  record Few : Type 0 where
    modules_few : modules s ≤ most_modules
    nets_few : nets s ≤ most_nets
    pins_few : pins s ≤ most_pins

  few : check2 s ≡ None → Few
  unfolding counted
  few e =
      let c = and_four (leb least_modules (modules s)) (leb (modules s) most_modules) (leb (nets s) most_nets) (leb (pins s) most_pins) (not-false _ (passed _ 0 e)) in
      record { modules_few = leb-true _ _ c.1; nets_few = leb-true _ _ c.2; pins_few = leb-true _ _ c.3 }

abbrev pub PlaceFew : Result Book Refusal → Type 0
PlaceFew (Ok b) = Unit {0}
PlaceFew (Err why) = place_of why ≤ most_pins

-- a check names a small place, or the rest does
named : (f : Option ℕ) (w : ℕ → Refusal) (r : Result Book Refusal) → ((p : ℕ) → f ≡ Some p → place_of (w p) ≤ most_pins) → (f ≡ None → PlaceFew r) → PlaceFew (refuse f w r)
named (Some p) w r a b = a p refl
named None w r a b = b refl

pub read_few : (s : List ℕ) → PlaceFew (read_of s)
unfolding read_of rest_of
read_few s =
    named (check1 s) (λ _. Layout) _ (λ p e. omega arith)
    (λ one. named (check2 s) (λ _. Counts) _ (λ p e. omega arith)
    (λ two. let h = few s two in
    named (check3 s) Module _ (λ p e. omega (arith, h.modules_few, module_within s p e))
    (λ three. named (check4 s) Net _ (λ p e. omega (arith, h.nets_few, net_within s p e))
    (λ four. named (check5 s) Pin _ (λ p e. omega (arith, h.pins_few, sum_right s four, pin_within s p e))
    (λ five. named (check6 s) (λ _. Marks) _ (λ p e. omega arith) (λ six. tt))))))

pub read_place : (s : List ℕ) {why : Refusal} → read_of s ≡ Err why → place_of why ≤ most_pins
read_place s e = subst PlaceFew e (read_few s)

-- ---- the calls that are given a side

side_few : (s l : List ℕ) {why : Refusal} → given.Refuses s l why → place_of why ≤ most_pins
side_few s l (given.reader e) = read_place s e
side_few s l (given.short r h) = omega arith
side_few s l (given.misfit r h f) = omega arith

pub price_place : (s l : List ℕ) (why : Refusal) → Bytes l → priced s l ≡ Err why → place_of why ≤ most_pins
price_place s l why h e = side_few s l (price_refuses s l h why e)

pub move_place : (s l : List ℕ) (m : ℕ) (why : Refusal) → Bytes l → changed s l m ≡ Err why → place_of why ≤ most_pins
move_place s l m why h e = go (change_refuses s l m h why e)
  where
    go : {why : Refusal} → RefusesMove s l m why → place_of why ≤ most_pins
    go (side r) = side_few s l r
    go (fixed r f n) = omega arith

-- ---- the checker: a net that breaks the net rule, a module that breaks the module rule

pub check_place : (s l : List ℕ) (xs : List ℤ) (claim : ℕ) (why : Refusal) → Bytes l → checked_of s l xs claim ≡ Err why → place_of why ≤ most_pins
check_place s l xs claim why h e = go (refused_tells s l xs claim h e)
  where
    go : {why : Refusal} → verdicts.Refuses s l xs claim why → place_of why ≤ most_pins
    go (verdicts.reader e) = read_place s e
    go (verdicts.short r h) = omega arith
    go (verdicts.misfit r h k f) = omega arith
    go (verdicts.net p b) = omega (arith, b.under, (sound s p.reads.0 p.reads.1).few_nets)
    go (verdicts.free p k b) = omega (arith, b.under, (sound s p.reads.0 p.reads.1).few_modules)
    go (verdicts.unequal p f c) = omega arith

-- ---- the split

pub split_place : (s : List ℕ) (old new : Buffers) (why : Refusal) → Split s old (Err why) new → place_of why ≤ most_pins
split_place s old new why k = go (split_refused s old new why k)
  where
    go : {why : Refusal} → splits.Refuses s old why → place_of why ≤ most_pins
    go (splits.reader e) = read_place s e
    go (splits.short r f) = omega arith

-- ---- the walk: with 14 the place is 0

module _ (s : List ℕ) (g : Gate) (side rows : List ℕ) where
  tested : (a b : Bool) (r : Result Book Refusal) → PlaceFew r → PlaceFew (refuse_if a refusal.Gate (refuse_if b Buffer r))
  tested true b r h = omega arith
  tested false true r h = omega arith
  tested false false r h = h

  after : (r : Result Book Refusal) → PlaceFew r → PlaceFew (if_read r (checked_sound s g side rows))
  after (Ok b) h = tested (not (good_gate g)) (too_short s side rows) (Ok (book_of s)) tt
  after (Err why) h = h

  checked_few : PlaceFew (call.checked_of s g side rows)
  unfolding call.checked_of
  checked_few = after (read_of s) (read_few s)

  ended : (rs : List Row) (o : Outcome) → (answer (card_of s) rs o).place ≤ most_pins
  ended rs (found x) = omega arith
  ended rs none_left = omega arith

  pub walk_place : (a : Left) → Walked s g side rows a → a.answer.place ≤ most_pins
  walk_place a = go (call.checked_of s g side rows) checked_few
    where
      go : (r : Result Book Refusal) → PlaceFew r → Comes r s g side rows a → a.answer.place ≤ most_pins
      go (Err why) h k = rw k h
      go (Ok b) h k = rw k.left (ended k.rounds k.outcome)
