-- The values of every answer are small: a price is at most the largest, and there are at most as many rounds as modules and one more. Assumes nothing.
use Rattle.std.specs.Prelude.{Result, Ok, Err}
use Rattle.book.specs.declared.Refusal.{Refusal}
use Prim.Native.Nat.{ℕ, zero, suc, ◌+◌, ◌*◌, ◌≤◌, ◌<◌}
use mathlib.Core.Path.{◌≡◌, refl, ap, subst, ◌∙◌}
use mathlib.Core.Bool.{Bool, true, false, cond}
use mathlib.Core.List.{List}
use native.Mathlib.Omega.{arith}
use lib.IntN.{pos}
use lib.ListN.{take}
use mir.Syntax.{w64}
use mir.Val.{SFits}
use Rattle.line.specs.Card.{Net, Side, crosses, cost, price, area_to, count_to}
use Rattle.line.proofs.Index.{price-suc}
use Rattle.book.specs.declared.Book.{Book}
use Rattle.book.specs.Format.{modules, nets, mark, weight, u16, u32, field}
use Rattle.book.specs.Checks.{most_modules, most_nets, most_pins, read_of}
use Rattle.book.specs.Cards.{net_of, nets_of}
use Rattle.book.specs.Sound.{Sound}
use Rattle.book.proofs.CardLaws.{nets-length, net-at, price_start, price_all}
use Rattle.book.proofs.Sound.{sound, counts_are}
use Rattle.side.specs.Sides.{side_of, Bytes}
use Rattle.side.specs.Prices.{most_number, most_price, priced}
use Rattle.side.proofs.Prices.{price_tells}
use Rattle.split.specs.Splits.{Buffers, Split}
use Rattle.split.proofs.Answers.{split_tells}
use Rattle.gate.specs.declared.Gate.{Gate}
use Rattle.walk.specs.Walk.{free}
use Rattle.walk.specs.Call.{checked_of, Left, Comes, Walked}
use Rattle.walk.proofs.Call.{checked}
use Rattle.walk.proofs.Books.{book_rounds}

-- a number that fits 32 bits is one of 64 with a sign
pub fits : (n : ℕ) → n < 4294967296 → SFits w64 (pos n)
fits n h = record { sfits = omega arith }

-- ---- the counts of a book

pub record Counts (b : Book) : Type 0 where
  pub modules_few : b.modules ≤ most_modules
  pub nets_few : b.nets ≤ most_nets
  pub pins_few : b.pins ≤ most_pins

pub counts_few : (s : List ℕ) (b : Book) → read_of s ≡ Ok b → Counts b
counts_few s b e =
    let h = sound s b e in
    subst Counts (counts_are s b e) (record { modules_few = h.few_modules; nets_few = h.few_nets; pins_few = h.few_pins })

-- ---- a price

cost_most : (x : Side) (n : Net) → cost x n ≤ n.weight
unfolding cost
cost_most x n = go (crosses x n)
  where
    go : (b : Bool) → cond b n.weight 0 ≤ n.weight
    go true = omega arith
    go false = omega arith

weight_most : (s : List ℕ) (n : ℕ) → Bytes s → weight s n ≤ most_number
unfolding field u16
weight_most s n h = let at = u32 s 14 + 4 * n in omega (arith, h at, h (at + 1))

module _ (s : List ℕ) (h : Bytes s) (x : Side) where
  price_to : (n : ℕ) → n ≤ nets s → price (take n (nets_of s)) x ≤ most_number * n
  price_to zero l = omega (arith, price_start s x)
  price_to (suc n) l =
      let c : price (take (suc n) (nets_of s)) x ≡ price (take n (nets_of s)) x + cost x (net_of s n) =
      price-suc (nets_of s) x n (omega (arith, nets-length s)) ∙ ap (λ (k : Net). price (take n (nets_of s)) x + cost x k) (net-at s n l) in
      omega (arith, c, price_to n (omega arith), cost_most x (net_of s n), weight_most s n h)

  pub price_most : Sound s → price (nets_of s) x ≤ most_price
  price_most k = omega (arith, price_all s x, price_to (nets s) (omega arith), k.few_nets)

pub price_few : (s l : List ℕ) (p : ℕ) → Bytes s → priced s l ≡ Ok p → p ≤ most_price
price_few s l p h e = let a = price_tells s l p e in omega (arith, a.is, price_most s h (side_of l) (sound s a.reads.0 a.reads.1))

pub split_few : (s : List ℕ) (old new : Buffers) (p : ℕ) → Bytes s → Split s old (Ok p) new → p ≤ most_price
split_few s old new p h k = let t = split_tells s old new p k in omega (arith, t.holds.price_is, price_most s h (side_of new.near) t.sound)

-- ---- a count of rounds

count_most : (x : Side) (n : ℕ) → count_to x n ≤ n
unfolding area_to
count_most x zero = omega arith
count_most x (suc n) = go (x n) (count_most x n)
  where
    go : (b : Bool) → count_to x n ≤ n → count_to x n + cond b 1 0 ≤ suc n
    go true h = omega arith
    go false h = omega arith

module _ (s : List ℕ) (g : Gate) (side rows : List ℕ) where
  pub rounds_most : (a : Left) → Walked s g side rows a → a.answer.rounds ≤ most_modules + 1
  rounds_most a = go (checked_of s g side rows) refl
    where
      go : (r : Result Book Refusal) → checked_of s g side rows ≡ r → Comes r s g side rows a → a.answer.rounds ≤ most_modules + 1
      go (Err why) e k = rw k (omega arith)
      go (Ok b) e k = omega (arith, book_rounds s g side rows a k, count_most (free (mark s)) (modules s), (checked s g side rows b e).reads.few_modules)
