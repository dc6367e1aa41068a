-- Document 01's numbers of an answer: the number of each refusal, its place, and the counts that the reader answers. Definitions only.
use Rattle.book.specs.declared.Book.{Book}
use Rattle.std.specs.Prelude.{ℕ, Result, Ok, Err}
use Rattle.book.specs.declared.Refusal.{Refusal}
use Rattle.book.specs.declared.Refusal.TheVariants.{Layout, Counts, Module, Net, Pin, Marks, Gate, Buffer, Side, Move, NetRule, ModuleRule, Values, Stuck}

abbrev pub number_of : Refusal → ℕ
number_of Layout = 1
number_of Counts = 2
number_of (Module m) = 3
number_of (Net n) = 4
number_of (Pin p) = 5
number_of Marks = 6
number_of Gate = 7
number_of Buffer = 8
number_of Side = 9
number_of Move = 10
number_of (NetRule n) = 11
number_of (ModuleRule m) = 12
number_of Values = 13
number_of Stuck = 14

-- 0 where a refusal has none
abbrev pub place_of : Refusal → ℕ
place_of Layout = 0
place_of Counts = 0
place_of (Module m) = m
place_of (Net n) = n
place_of (Pin p) = p
place_of Marks = 0
place_of Gate = 0
place_of Buffer = 0
place_of Side = 0
place_of Move = 0
place_of (NetRule n) = n
place_of (ModuleRule m) = m
place_of Values = 0
place_of Stuck = 0

-- the reader's answer: 0 is done, and with a refusal every other number is 0
pub record Numbers : Type 0 where
  pub number : ℕ
  pub place : ℕ
  pub modules : ℕ
  pub nets : ℕ
  pub pins : ℕ

abbrev pub numbers_of : Result Book Refusal → Numbers
numbers_of (Ok b) = record { number = 0; place = 0; modules = b.modules; nets = b.nets; pins = b.pins }
numbers_of (Err r) = record { number = number_of r; place = place_of r; modules = 0; nets = 0; pins = 0 }
