-- A round of pushes, the rounds together, and the two sides. This page holds definitions only.
use Rattle.std.specs.Prelude.{◌≡◌, Bool, true, false, List, ℕ, suc, ◌+◌, ◌-◌, ◌≤◌, ◌<◌, length, get_or, take, drop, ℤ, pos, ◌+ℤ◌}
use Rattle.line.specs.Card.{Card, Side, price, Separates, Near}
use Rattle.line.specs.Flow.{total_sent, Fair, value}
use Rattle.line.proofs.Ways.{plainly}
use Rattle.line.proofs.Index.{net_at}
use Rattle.line.proofs.Path.{AllOf, Sound, Spare, Pairwise, LeadsBack}
use Rattle.line.proofs.Tree.{walk}
use Rattle.flow.specs.Search.{In}
use Rattle.flow.specs.Cards.{Laid, Sums, up_of}
use Rattle.flow.specs.Push.{Ground}

-- the ground, with the weights as the arrays have them
pub record Field (c : Card) (ms ws nt mk w : List ℕ) : Type 0 where
  pub ground : Ground c ms nt mk w
  pub nets : length c.nets ≡ length ws
  pub weight : (e : ℕ) → e < length ws → (net_at c.nets e).weight ≡ get_or ws e 0

-- the way from z back to a meter: its steps are sound and apart, whatever the flow is now
pub record Route (c : Card) (nt mk w : List ℕ) (z : ℕ) : Type 0 where
  pub from : In w z
  pub maker : c.mark z ≡ 2
  pub sound : AllOf (Sound plainly c) (walk c (up_of c nt w) (suc (length mk)) z)
  pub apart : Pairwise (walk c (up_of c nt w) (suc (length mk)) z)
  pub leads : (h : ℕ) × (c.mark h ≡ 1) × LeadsBack c h (walk c (up_of c nt w) (suc (length mk)) z) z

-- a fair flow with the sums of its nets
pub record Steady (c : Card) (ms sm : List ℕ) (fl : List ℤ) : Type 0 where
  pub fair : Fair c fl
  pub sums : Sums c sm fl
  pub flows : length fl ≡ length ms

-- one more can pass on the whole way from z
abbrev pub OpenWay : Card → List ℕ → List ℕ → List ℕ → List ℤ → ℕ → Type 0
OpenWay c nt mk w fl z = AllOf (Spare c fl 1) (walk c (up_of c nt w) (suc (length mk)) z)

-- from one steady flow to another, of a value that is higher by `more`
pub record Gained (c : Card) (ms sm : List ℕ) (fl : List ℤ) (sm' : List ℕ) (fl' : List ℤ) : Type 0 where
  pub steady : Steady c ms sm' fl'
  pub more : ℕ
  pub gain : value c fl' ≡ value c fl +ℤ pos more

-- what a push from z needs, and what it leaves
abbrev pub MayCarry : List ℕ → List ℕ → List ℕ → List ℕ → List ℕ → List ℕ → List ℤ → ℕ → Type 0
MayCarry ms ws nt mk w sm fl z = (c : Card) × Field c ms ws nt mk w × Route c nt mk w z × Steady c ms sm fl

abbrev pub Carried : List ℕ → List ℕ → List ℕ → List ℕ → List ℕ → List ℕ → List ℤ → ℕ → List ℕ → List ℤ → Type 0
Carried ms ws nt mk w sm fl z sm' fl' =
    (c : Card) → Field c ms ws nt mk w → Route c nt mk w z → Steady c ms sm fl → (g : Gained c ms sm fl sm' fl') × (OpenWay c nt mk w fl z → 0 < g.more)

-- each maker that was reached has its route
abbrev pub Routes : Card → List ℕ → List ℕ → List ℕ → Type 0
Routes c nt mk w = (z : ℕ) → z < length mk → get_or mk z 0 ≡ 2 → In w z → Route c nt mk w z

abbrev pub MayRound : List ℕ → List ℕ → List ℕ → List ℕ → List ℕ → List ℕ → List ℤ → Type 0
MayRound ms ws nt mk w sm fl = (c : Card) × Field c ms ws nt mk w × Routes c nt mk w × Steady c ms sm fl

-- the makers below i have been pushed from: the flow as it was if none of them was reached, else one of a higher value
pub record Round (c : Card) (ms nt mk w sm : List ℕ) (fl : List ℤ) (i : ℕ) (any : Bool) (sm' : List ℕ) (fl' : List ℤ) : Type 0 where
  pub gained : Gained c ms sm fl sm' fl'
  pub none : any ≡ false → (fl' ≡ fl) × (sm' ≡ sm) × ((z : ℕ) → z < i → get_or mk z 0 ≡ 2 → In w z → ⊥)
  pub some : any ≡ true → ((z : ℕ) → z < length mk → get_or mk z 0 ≡ 2 → In w z → OpenWay c nt mk w fl z) → 0 < gained.more

abbrev pub Rounded : List ℕ → List ℕ → List ℕ → List ℕ → List ℕ → List ℕ → List ℤ → ℕ → Bool → List ℕ → List ℤ → Type 0
Rounded ms ws nt mk w sm fl i any sm' fl' = (c : Card) → Field c ms ws nt mk w → Routes c nt mk w → Steady c ms sm fl → Round c ms nt mk w sm fl i any sm' fl'

-- ---- the sums of the nets

abbrev pub part_of : List ℕ → List ℤ → ℕ → List ℤ
part_of fs fl e = take (get_or fs (e + 1) 0 - get_or fs e 0) (drop (get_or fs e 0) fl)

pub record Summed (fs : List ℕ) (fl : List ℤ) (N : ℕ) (sm : List ℕ) : Type 0 where
  pub sum : (e : ℕ) → e < N → get_or sm e 0 ≡ total_sent (part_of fs fl e)

pub record Summable (fs : List ℕ) (fl : List ℤ) (N : ℕ) : Type 0 where
  pub firsts : length fs ≡ N + 1
  pub rises : (n : ℕ) → n < N → get_or fs n 0 ≤ get_or fs (n + 1) 0
  pub ends : (n : ℕ) → n < N → get_or fs (n + 1) 0 ≤ length fl
  pub few : (n : ℕ) → n < N → total_sent (part_of fs fl n) ≤ 65535

-- ---- the whole

-- the arrays of a board and the room for the search: what `raise` and `far` ask beside the board
pub record Ready (fs ms ws mk q w sn sm : List ℕ) : Type 0 where
  pub laid : Laid fs ms ws mk
  pub modules : length mk < 65535
  pub queue : length q ≡ length mk
  pub how : length w ≡ length mk
  pub seen : length sn ≡ length ws
  pub sums : length sm ≡ length ws

-- a fair flow whose value is the price of the side s, which is the near side
pub record Raised (c : Card) (ms sm : List ℕ) (fl : List ℤ) (s : Side) : Type 0 where
  pub fair : Fair c fl
  pub flows : length fl ≡ length ms
  pub sums : Sums c sm fl
  pub value : value c fl ≡ pos (price c.nets s)
  pub near : Near c s

-- a fair flow of the greatest value: that of some side that separates
pub record Greatest (c : Card) (ms sm : List ℕ) (fl : List ℤ) : Type 0 where
  pub steady : Steady c ms sm fl
  pub side : Side
  pub separates : Separates c side
  pub value : value c fl ≡ pos (price c.nets side)
