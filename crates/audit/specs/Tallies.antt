-- The sums of all modules as one list, entry m for module m: how the checker keeps them. This page holds definitions only.
use Rattle.std.specs.Prelude.{ℕ, ◌*◌, ◌≤◌, ◌<◌, ◌≡◌, Bool, not, cond, ◌&&◌, List, eqb, ℤ, pos, length, get_or}
use Rattle.line.specs.Flow.{only, meters}
use Rattle.book.specs.Format.{modules, pins, mark, pin}
use Rattle.book.specs.Checks.{most_pins}
use Rattle.book.specs.Cards.{card_of}
use Rattle.audit.specs.Rules.{sum_to, most_sent}

-- an entry for each module, each 0
pub record Empty (s l : List ℕ) : Type 0 where
  pub size : modules s ≤ length l
  pub none : (m : ℕ) → m < modules s → get_or l m 0 ≡ 0

-- entry m is what the first k pins that are module m's send or take: f is `sent` or `taken`
pub record TallyTo (s : List ℕ) (xs : List ℤ) (f : ℤ → ℕ) (k : ℕ) (l : List ℕ) : Type 0 where
  pub size : modules s ≤ length l
  pub sums : (m : ℕ) → m < modules s → get_or l m 0 ≡ sum_to (λ p. cond (only m (pin s p)) (f (get_or xs p (pos 0))) 0) k
  pub fits : (m : ℕ) → m < modules s → get_or l m 0 ≤ most_sent * k

abbrev pub Tally : List ℕ → List ℤ → (ℤ → ℕ) → List ℕ → Type 0
Tally s xs f l = TallyTo s xs f (pins s) l

-- an entry for each module, each no more than the pins of a book can make it
pub record Small (s l : List ℕ) : Type 0 where
  pub size : modules s ≤ length l
  pub fits : (m : ℕ) → m < modules s → get_or l m 0 ≤ most_sent * most_pins

-- module m is free and its two sums differ
abbrev pub uneven : List ℕ → List ℕ → List ℕ → ℕ → Bool
uneven s a b m = eqb (mark s m) 0 && not (eqb (get_or a m 0) (get_or b m 0))

-- the entries of the meter modules below n added up
abbrev pub meters_to : List ℕ → List ℕ → ℕ → ℕ
meters_to s l n = sum_to (λ m. cond (meters (card_of s) m) (get_or l m 0) 0) n
