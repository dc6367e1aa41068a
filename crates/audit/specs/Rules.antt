-- The rules of a flow on a book's own numbers, checks 11 and 12, and its value. This page holds definitions only.
-- A flow is one number a pin, in pin order. What is sent and what is taken are summed apart, so that no sum is below 0; no number past the last pin is asked for.
use Rattle.audit.specs.declared.Value.{Value}
use Rattle.std.specs.Prelude.{ℕ, zero, suc, ◌+◌, ◌≤◌, Bool, not, cond, ◌&&◌, ◌||◌, List, ltb, eqb, ℤ, pos, length, take, get_or, Option, Some, None, Result, Ok, Err}
use Rattle.line.specs.Card.{Side}
use Rattle.line.specs.Flow.{sent, taken, only, meters}
use Rattle.book.specs.declared.Refusal.{Refusal}
use Rattle.book.specs.declared.Refusal.TheVariants.{NetRule, ModuleRule}
use Rattle.book.specs.First.{lowest}
use Rattle.book.specs.Format.{modules, nets, pins, mark, weight, pin_count, pin, first_pin}
use Rattle.book.specs.Sound.{Sound}
use Rattle.book.specs.Cards.{card_of}

-- f 0, f 1, .., f (n - 1) added up
unfoldable pub sum_to : (ℕ → ℕ) → ℕ → ℕ
sum_to f zero = 0
sum_to f (suc n) = sum_to f n + f n

-- the part of a flow that a call needs: a number for each pin
abbrev pub needed : List ℕ → List ℤ → List ℤ
needed s xs = take (pins s) xs

-- a sound book, and a flow with the numbers that it needs
pub record LentFlow (s : List ℕ) (xs : List ℤ) : Type 0 where
  pub sound : Sound s
  pub enough : pins s ≤ length xs

-- the most that one number of 32 bits sends or takes
abbrev pub most_sent : ℕ
most_sent = 2147483648

-- what the number of pin p sends, and what it takes
abbrev pub sent_at : List ℤ → ℕ → ℕ
sent_at xs p = sent (get_or xs p (pos 0))

abbrev pub taken_at : List ℤ → ℕ → ℕ
taken_at xs p = taken (get_or xs p (pos 0))

-- what the first k pins of net n send, and what they take
abbrev pub net_sent_to : List ℕ → List ℤ → ℕ → ℕ → ℕ
net_sent_to s xs n k = sum_to (λ j. sent_at xs (first_pin s n + j)) k

abbrev pub net_taken_to : List ℕ → List ℤ → ℕ → ℕ → ℕ
net_taken_to s xs n k = sum_to (λ j. taken_at xs (first_pin s n + j)) k

-- what all of them do
abbrev pub net_sent : List ℕ → List ℤ → ℕ → ℕ
net_sent s xs n = net_sent_to s xs n (pin_count s n)

abbrev pub net_taken : List ℕ → List ℤ → ℕ → ℕ
net_taken s xs n = net_taken_to s xs n (pin_count s n)

-- net n breaks the net rule: what is sent is not what is taken, or is above its weight
unfoldable pub bad_net_flow : List ℕ → List ℤ → ℕ → Bool
bad_net_flow s xs n = not (eqb (net_sent s xs n) (net_taken s xs n)) || ltb (weight s n) (net_sent s xs n)

unfoldable pub check11 : List ℕ → List ℤ → Option ℕ
check11 s xs = lowest (bad_net_flow s xs) (nets s)

-- what the pins of the modules of x among the first k pins send, and what they take
abbrev pub sent_to : List ℕ → List ℤ → Side → ℕ → ℕ
sent_to s xs x k = sum_to (λ p. cond (x (pin s p)) (sent_at xs p) 0) k

abbrev pub taken_to : List ℕ → List ℤ → Side → ℕ → ℕ
taken_to s xs x k = sum_to (λ p. cond (x (pin s p)) (taken_at xs p) 0) k

-- what the pins of module m send, and what they take
abbrev pub module_sent : List ℕ → List ℤ → ℕ → ℕ
module_sent s xs m = sent_to s xs (only m) (pins s)

abbrev pub module_taken : List ℕ → List ℤ → ℕ → ℕ
module_taken s xs m = taken_to s xs (only m) (pins s)

-- module m breaks the module rule: it is free, and what it sends is not what it takes
unfoldable pub bad_module_flow : List ℕ → List ℤ → ℕ → Bool
bad_module_flow s xs m = eqb (mark s m) 0 && not (eqb (module_sent s xs m) (module_taken s xs m))

unfoldable pub check12 : List ℕ → List ℤ → Option ℕ
check12 s xs = lowest (bad_module_flow s xs) (modules s)

-- what the pins of meter modules send, and what they take: the value is the one less the other
abbrev pub value_sent : List ℕ → List ℤ → ℕ
value_sent s xs = sent_to s xs (meters (card_of s)) (pins s)

abbrev pub value_taken : List ℕ → List ℤ → ℕ
value_taken s xs = taken_to s xs (meters (card_of s)) (pins s)

-- what a check that found a fault refuses, and failing that the rest
abbrev pub unless : Option ℕ → (ℕ → Refusal) → Result Value Refusal → Result Value Refusal
unless (Some place) why rest = Err (why place)
unless None why rest = rest

-- check 12, and the value
unfoldable pub balance_of : List ℕ → List ℤ → Result Value Refusal
balance_of s xs = unless (check12 s xs) ModuleRule (Ok (record { sent = value_sent s xs; taken = value_taken s xs }))

-- checks 11 and 12, and the value
unfoldable pub ruled_of : List ℕ → List ℤ → Result Value Refusal
ruled_of s xs = unless (check11 s xs) NetRule (balance_of s xs)
