-- The climb over arrays: fs, ms, ws, nt, at, pl and mk are a card and its tables, as for a search. The way from a meter to the module reached last is w, how each
-- module on it was reached, and sn, the module to which the room of each net leads. This page holds definitions only.
use Rattle.std.specs.Prelude.{◌≡◌, ◌≢◌, Bool, true, List, ℕ, ℤ, suc, ◌+◌, ◌*◌, ◌≤◌, ◌<◌, length, get_or, set}
use Rattle.flow.specs.Search.{In, rank, left, kind, entered, Pin, Tables}
use Rattle.flow.specs.Cards.{Laid}
use Rattle.flow.specs.Push.{Trail}
use Rattle.flow.specs.Raise.{Steady}
use Rattle.flow.specs.Board.{board_card}
use Rattle.flow.specs.declared.board.Board.{Board}

-- the arrays of a card and its tables
pub record Lay (fs ms ws nt at pl mk : List ℕ) : Type 0 where
  pub laid : Laid fs ms ws mk
  pub tables : Tables fs ms ws nt at pl (length mk)
  pub few_pins : length ms < 16384
  pub few_modules : length mk ≤ 256
  pub few_nets : length ws ≤ 512

-- what the climb asks of a board: its arrays are those of a card, and a guide has room for it. With what a board holds that is all of `Lay`.
pub record Guided (b : Board) : Type 0 where
  pub laid : Laid b.first.now b.mods.now b.weight.now b.mark.now
  pub few_modules : length b.mark.now ≤ 256
  pub few_nets : length b.weight.now ≤ 512

-- every pin names one of M modules, or of M nets
abbrev pub Named : List ℕ → ℕ → Type 0
Named xs M = (p : ℕ) → p < length xs → get_or xs p 0 < M

-- x tells a step from pin a into a pin of lo up to hi, whose module is no meter and not on the way; by the net's room only if it is free
pub record Entry (ms mk w : List ℕ) (lo hi : ℕ) (free : Bool) (r a x : ℕ) : Type 0 where
  pub pin : ℕ
  pub by : ℕ
  pub number : x ≡ r * 4294967296 + (a * 4 + by) * 65536 + pin
  pub on : Pin lo hi pin
  pub small : by ≤ 2
  pub room : by ≡ 0 → free ≡ true
  pub fresh : get_or w (get_or ms pin 0) 0 ≡ 0
  pub no_meter : get_or mk (get_or ms pin 0) 0 ≢ 1

-- x tells a step of rank r from u to a module that is no meter and not on the way; by a net's room only if the way does not use it
pub record Onward (ms nt mk w sn : List ℕ) (u r x : ℕ) : Type 0 where
  pub in_left : left x < length ms
  pub in_entered : entered x < length ms
  pub same : get_or nt (entered x) 0 ≡ get_or nt (left x) 0
  pub from : get_or ms (left x) 0 ≡ u
  pub fresh : get_or w (get_or ms (entered x) 0) 0 ≡ 0
  pub no_meter : get_or mk (get_or ms (entered x) 0) 0 ≢ 1
  pub rank : rank x ≡ r
  pub few : r ≤ length mk
  pub small : kind x ≤ 2
  pub room : kind x ≡ 0 → get_or sn (get_or nt (left x) 0) 0 ≡ 0

-- x tells a step to v from the module before it on the way
abbrev pub Instead : List ℕ → List ℕ → List ℕ → List ℕ → List ℕ → ℕ → ℕ → Type 0
Instead ms nt mk w sn v x = Onward ms nt mk (set w v 0) sn (get_or ms (left (get_or w v 0)) 0) (rank (get_or w v 0)) x × (get_or ms (entered x) 0 ≡ v)

-- no module is on the way
abbrev pub Empty : List ℕ → Type 0
Empty w = (m : ℕ) → In w m → ⊥

-- a way from a meter that ends at u: each step has the next rank, and the room of a net leads to one module at most
pub record Thread (ms nt mk w sn : List ℕ) (N u : ℕ) : Type 0 where
  pub trail : Trail ms nt mk w N
  pub tip : In w u
  pub above : (m : ℕ) → In w m → 0 < rank (get_or w m 0)
  pub begins : (m : ℕ) → In w m → get_or mk m 0 ≡ 1 → rank (get_or w m 0) ≡ 1
  pub last : (m : ℕ) → In w m → m ≢ u → rank (get_or w m 0) < rank (get_or w u 0)
  pub once : (m m' : ℕ) → In w m → In w m' → rank (get_or w m 0) ≡ rank (get_or w m' 0) → m ≡ m'
  pub next : (m : ℕ) → In w m → get_or mk m 0 ≢ 1 → rank (get_or w m 0) ≡ suc (rank (get_or w (get_or ms (left (get_or w m 0)) 0) 0))
  pub to : (m : ℕ) → In w m → get_or mk m 0 ≢ 1 → get_or ms (entered (get_or w m 0)) 0 ≡ m
  pub small : (m : ℕ) → In w m → get_or mk m 0 ≢ 1 → kind (get_or w m 0) ≤ 2
  pub opens : (m : ℕ) → In w m → get_or mk m 0 ≢ 1 → kind (get_or w m 0) ≡ 0 → get_or sn (get_or nt (left (get_or w m 0)) 0) 0 ≡ suc m

-- the lengths of what the climb works in
pub record Sized (mk ws w sn : List ℕ) : Type 0 where
  pub how : length w ≡ length mk
  pub seen : length sn ≡ length ws

-- ---- the same of a board's arrays

abbrev pub Ahead : Board → List ℕ → List ℕ → ℕ → ℕ → ℕ → Type 0
Ahead b w sn u r x = Onward b.mods.now b.nets.now b.mark.now w sn u r x

abbrev pub Replacing : Board → List ℕ → List ℕ → ℕ → ℕ → Type 0
Replacing b w sn v x = Instead b.mods.now b.nets.now b.mark.now w sn v x

-- with a place for the mark of each net
abbrev pub WayTo : Board → List ℕ → List ℕ → ℕ → Type 0
WayTo b w sn u = Thread b.mods.now b.nets.now b.mark.now w sn (length b.weight.now) u × (length sn ≡ length b.weight.now)

abbrev pub SteadyOn : Board → List ℕ → List ℤ → Type 0
SteadyOn b sm fl = Steady (board_card b) b.mods.now sm fl
