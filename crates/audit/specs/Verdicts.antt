-- When the checker accepts, and when it refuses and with what, in the page's words. This page holds definitions only.
use Rattle.std.specs.Prelude.{ℕ, ◌≤◌, ◌<◌, ◌≡◌, ◌⊎◌, List, ℤ, pos, length, take, drop, Err}
use Rattle.line.specs.Card.{all_pins}
use Rattle.line.specs.Flow as page
use Rattle.line.specs.Flow.{flow_at, EachNet, only, Fair}
use Rattle.book.specs.declared.Refusal.{Refusal}
use Rattle.book.specs.declared.Refusal.TheVariants.{Buffer, Side, NetRule, ModuleRule, Values}
use Rattle.book.specs.Format.{modules, nets, pins, mark, pin_count, first_pin}
use Rattle.book.specs.Checks.{read_of}
use Rattle.book.specs.Cards.{net_of, nets_of, card_of}
use Rattle.side.specs.Sides.{side_of, bytes_for}
use Rattle.side.specs.Given.{Fits, Reads}
use Rattle.audit.specs.Rules.{needed}
use Rattle.audit.specs.Certificate.{Certified}

-- net n's own numbers keep the net rule
abbrev pub NetKeeps : List ℕ → List ℤ → ℕ → Type 0
NetKeeps s xs n = page.NetRule (net_of s n) (take (pin_count s n) (drop (first_pin s n) xs))

-- net n is the first that breaks it
pub record BrokenNet (s : List ℕ) (xs : List ℤ) (n : ℕ) : Type 0 where
  pub under : n < nets s
  pub breaks : NetKeeps s xs n → ⊥
  pub before : (k : ℕ) → k < n → NetKeeps s xs k

-- module m keeps the module rule: where it is free, its numbers add to 0
abbrev pub ModuleKeeps : List ℕ → List ℤ → ℕ → Type 0
ModuleKeeps s xs m = mark s m ≡ 0 → flow_at (only m) (all_pins (nets_of s)) xs ≡ pos 0

-- module m is the lowest that breaks it
pub record BrokenModule (s : List ℕ) (xs : List ℤ) (m : ℕ) : Type 0 where
  pub under : m < modules s
  pub breaks : ModuleKeeps s xs m → ⊥
  pub before : (k : ℕ) → k < m → ModuleKeeps s xs k

-- the book reads, the side fits, and the flow has a number for each pin
pub record Presented (s l : List ℕ) (xs : List ℤ) : Type 0 where
  pub reads : Reads s
  pub fits : Fits s l
  pub enough : pins s ≤ length xs

pub record Accepts (s l : List ℕ) (xs : List ℤ) (claim : ℕ) : Type 0 where
  pub presented : Presented s l xs
  pub certified : Certified (card_of s) (needed s xs) (side_of l) claim

-- the table of document 01, a case a number
pub data Refuses (s l : List ℕ) (xs : List ℤ) (claim : ℕ) : Refusal → Type 0 where
  reader : {why : Refusal} → read_of s ≡ Err why → Refuses s l xs claim why
  short : Reads s → (length xs < pins s) ⊎ (length l < bytes_for (modules s)) → Refuses s l xs claim Buffer
  misfit : Reads s → pins s ≤ length xs → bytes_for (modules s) ≤ length l → (Fits s l → ⊥) → Refuses s l xs claim Side
  net : {n : ℕ} → Presented s l xs → BrokenNet s (needed s xs) n → Refuses s l xs claim (NetRule n)
  free : {m : ℕ} → Presented s l xs → EachNet page.NetRule (nets_of s) (needed s xs) → BrokenModule s (needed s xs) m → Refuses s l xs claim (ModuleRule m)
  unequal : Presented s l xs → Fair (card_of s) (needed s xs) → (Certified (card_of s) (needed s xs) (side_of l) claim → ⊥) → Refuses s l xs claim Values
