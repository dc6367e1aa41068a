-- The search by a queue, over arrays: fs the first pin of each net, ms the module of each pin, nt the net of each pin, at and pl the pins module by
-- module, ws the weights, sm what the pins of each net send, fl the flow. The state: q the queue, w how each module was reached, sn what was seen of each net.
-- This page holds definitions only.
use Rattle.std.specs.Prelude.{◌≡◌, Bool, true, false, not, ◌⊎◌, List, [], ◌∷◌, ℕ, zero, suc, ◌+◌, ◌*◌, ◌≤◌, ◌<◌, ◌/◌, ◌%◌, length, get_or, take, ℤ, pos, ltb}
use Rattle.line.specs.Flow.{sent, taken}

abbrev pub or : Bool → Bool → Bool
or true b = true
or false b = b

-- what a number sends; in a search backwards, what it takes
abbrev pub gives : Bool → ℤ → ℕ
gives false z = sent z
gives true z = taken z

-- what a pin sends, in the direction of the search
abbrev pub gift : Bool → List ℤ → ℕ → ℕ
gift bk fl b = gives bk (get_or fl b (pos 0))

-- a module is in the set that a list is
abbrev pub In : List ℕ → ℕ → Type 0
In xs m = 0 < get_or xs m 0

-- how many places of a list hold 0
abbrev pub is_zero : ℕ → ℕ
is_zero zero = 1
is_zero (suc n) = 0

unfoldable pub zeros : List ℕ → ℕ
zeros [] = 0
zeros (x ∷ xs) = is_zero x + zeros xs

-- ---- how a module was reached, in one number: place in the queue and 1, pin left, kind of step, pin entered
abbrev pub rank : ℕ → ℕ
rank x = x / 4294967296

abbrev pub left : ℕ → ℕ
left x = x / 262144 % 16384

abbrev pub kind : ℕ → ℕ
kind x = x / 65536 % 4

abbrev pub entered : ℕ → ℕ
entered x = x % 65536

-- a pin of the net whose pins are lo up to hi
pub record Pin (lo hi p : ℕ) : Type 0 where
  pub low : lo ≤ p
  pub high : p < hi

-- the kinds of a step: 0 by the net's room, 1 by pin a, which takes less, 2 by pin b, which sends less
pub record Way (bk : Bool) (fl : List ℤ) (sum weight k a b : ℕ) : Type 0 where
  pub small : k ≤ 2
  pub room : k ≡ 0 → sum < weight
  pub less : k ≡ 1 → 0 < gift (not bk) fl a
  pub back : k ≡ 2 → 0 < gift bk fl b

-- a step: leave by pin a, enter by pin b of the same net
pub record Hop (bk : Bool) (fs ws : List ℕ) (fl : List ℤ) (sm nt : List ℕ) (k a b : ℕ) : Type 0 where
  pub leaves : Pin (get_or fs (get_or nt a 0) 0) (get_or fs (get_or nt a 0 + 1) 0) a
  pub enters : Pin (get_or fs (get_or nt a 0) 0) (get_or fs (get_or nt a 0 + 1) 0) b
  pub small : get_or nt a 0 < length ws
  pub way : Way bk fl (get_or sm (get_or nt a 0) 0) (get_or ws (get_or nt a 0) 0) k a b

-- the state
pub record St : Type 0 where
  pub q : List ℕ
  pub w : List ℕ
  pub sn : List ℕ

abbrev pub st : List ℕ → List ℕ → List ℕ → St
st q w sn = record { q = q; w = w; sn = sn }

-- what is known of a module m that was reached between the tails t₀ and t
pub record Fresh (New : ℕ → ℕ → Type 0) (q w : List ℕ) (t₀ t m : ℕ) : Type 0 where
  pub place : ℕ
  pub low : t₀ ≤ place
  pub high : place < t
  pub rank : rank (get_or w m 0) ≡ place + 1
  pub queued : get_or q place 0 ≡ m
  pub how : New m (get_or w m 0)

-- from the queue q₀ with the tail t₀ to q with t: each new module is New
pub record Grown (New : ℕ → ℕ → Type 0) (q₀ w₀ : List ℕ) (t₀ : ℕ) (q w : List ℕ) (t : ℕ) : Type 0 where
  pub lenq : length q ≡ length q₀
  pub lenw : length w ≡ length w₀
  pub tails : t₀ ≤ t
  pub count : t + zeros w ≡ t₀ + zeros w₀
  pub kept : (m : ℕ) → In w₀ m → get_or w m 0 ≡ get_or w₀ m 0
  pub keptq : (j : ℕ) → j < t₀ → get_or q j 0 ≡ get_or q₀ j 0
  pub new : (m : ℕ) → In w m → In w₀ m ⊎ Fresh New q w t₀ t m
  pub newq : (j : ℕ) → t₀ ≤ j → j < t → rank (get_or w (get_or q j 0) 0) ≡ j + 1

-- what a spread over a net's pins needs of the state and the tail
pub record Room (ms q w : List ℕ) (t : ℕ) : Type 0 where
  pub below : (p : ℕ) → p < length ms → get_or ms p 0 < length w
  pub lenq : length q ≡ length w
  pub full : t + zeros w ≡ length w
  pub few : length w < 65535

-- a step to a pin that sends is by that pin, which sends less; to any other by what the pin left has
abbrev pub way_from : Bool → ℕ → ℕ → ℕ
way_from true from undo = undo
way_from false from undo = from

-- spread over the pins lo up to i
pub record ViaNet (ms : List ℕ) (fl : List ℤ) (all bk : Bool) (from undo lo i m x : ℕ) : Type 0 where
  pub at : ℕ
  pub number : x ≡ rank x * 4294967296 + way_from (ltb 0 (gift bk fl at)) from undo + at
  pub pin : Pin lo i at
  pub gives : or all (ltb 0 (gift bk fl at)) ≡ true
  pub to : get_or ms at 0 ≡ m

pub record Spread (ms : List ℕ) (fl : List ℤ) (all bk : Bool) (from undo lo i : ℕ) (q₀ w₀ : List ℕ) (t₀ : ℕ) (q w : List ℕ) (t : ℕ) : Type 0 where
  pub grown : Grown (ViaNet ms fl all bk from undo lo i) q₀ w₀ t₀ q w t
  pub done : (b : ℕ) → Pin lo i b → or all (ltb 0 (gift bk fl b)) ≡ true → In w (get_or ms b 0)

-- ---- a visit of one pin

-- the kind of the steps that leave by a pin: by room, by the pin itself, or by the pins that send
pub record Kind (sum weight : ℕ) (takes : Bool) (k : ℕ) : Type 0 where
  pub small : k ≤ 2
  pub room : k ≡ 0 → sum < weight
  pub less : k ≡ 1 → takes ≡ true
  pub only : k ≡ 2 → (weight ≤ sum) × (takes ≡ false)

-- a net with the mark s has nothing new for steps of kind k: all its pins were reached, or those that send and the step goes to no others
abbrev pub Enough : ℕ → ℕ → Type 0
Enough s k = (1 < s) ⊎ ((k ≡ 2) × (s ≡ 1))

-- what a visit of pin a reads
pub record Visit (fs ms ws nt sm : List ℕ) (fl : List ℤ) (a : ℕ) : Type 0 where
  pub pin : a < length ms
  pub nts : length nt ≡ length ms
  pub flows : length fl ≡ length ms
  pub few : length ms < 16384
  pub firsts : length fs ≡ length ws + 1
  pub sums : length sm ≡ length ws
  pub net : get_or nt a 0 < length ws
  pub on : Pin (get_or fs (get_or nt a 0) 0) (get_or fs (get_or nt a 0 + 1) 0) a
  pub ends : get_or fs (get_or nt a 0 + 1) 0 ≤ length ms

-- what was seen of the nets: 0 nothing, 1 the pins that send, a + 2 all of them, from pin a
pub record Seen (bk : Bool) (fs ms ws : List ℕ) (fl : List ℤ) (w sn : List ℕ) : Type 0 where
  pub part : (n : ℕ) → n < length ws → 0 < get_or sn n 0 → (b : ℕ) → Pin (get_or fs n 0) (get_or fs (n + 1) 0) b → 0 < gift bk fl b → In w (get_or ms b 0)
  pub whole : (n : ℕ) → n < length ws → 1 < get_or sn n 0 → (b : ℕ) → Pin (get_or fs n 0) (get_or fs (n + 1) 0) b → In w (get_or ms b 0)

-- what is seen stays seen; a net's room is used from the pin that its mark names
pub record Marked (nt : List ℕ) (s₀ s : St) : Type 0 where
  pub len : length s.sn ≡ length s₀.sn
  pub kept : (n : ℕ) → 1 < get_or s₀.sn n 0 → get_or s.sn n 0 ≡ get_or s₀.sn n 0
  pub opens : (m : ℕ) → In s.w m → In s₀.w m ⊎ (kind (get_or s.w m 0) ≡ 0 → get_or s.sn (get_or nt (left (get_or s.w m 0)) 0) 0 ≡ left (get_or s.w m 0) + 2)

-- left by a pin of u
pub record ViaHop (bk : Bool) (fs ms ws : List ℕ) (fl : List ℤ) (sm nt : List ℕ) (u m x : ℕ) : Type 0 where
  pub from : get_or ms (left x) 0 ≡ u
  pub hop : Hop bk fs ws fl sm nt (kind x) (left x) (entered x)
  pub to : get_or ms (entered x) 0 ≡ m

pub record PinDone (bk : Bool) (fs ms ws : List ℕ) (fl : List ℤ) (sm nt : List ℕ) (a : ℕ) (s₀ : St) (t₀ : ℕ) (s : St) (t : ℕ) : Type 0 where
  pub grown : Grown (ViaHop bk fs ms ws fl sm nt (get_or ms a 0)) s₀.q s₀.w t₀ s.q s.w t
  pub marked : Marked nt s₀ s
  pub seen : Seen bk fs ms ws fl s.w s.sn
  pub done : (k b : ℕ) → Hop bk fs ws fl sm nt k a b → In s.w (get_or ms b 0)

-- the places lo up to i of the pins list have been visited
pub record PinsDone (bk : Bool) (fs ms ws : List ℕ) (fl : List ℤ) (sm nt pl : List ℕ) (u lo i : ℕ) (s₀ : St) (t₀ : ℕ) (s : St) (t : ℕ) : Type 0 where
  pub grown : Grown (ViaHop bk fs ms ws fl sm nt u) s₀.q s₀.w t₀ s.q s.w t
  pub marked : Marked nt s₀ s
  pub seen : Seen bk fs ms ws fl s.w s.sn
  pub done : (j : ℕ) → Pin lo i j → (k b : ℕ) → Hop bk fs ws fl sm nt k (get_or pl j 0) b → In s.w (get_or ms b 0)

-- ---- the tables

-- the tables: nt the net of each pin, at and pl the pins module by module
pub record Tables (fs ms ws nt at pl : List ℕ) (M : ℕ) : Type 0 where
  pub counts : length nt ≡ length ms
  pub net : (a : ℕ) → a < length ms → (get_or nt a 0 < length ws) × Pin (get_or fs (get_or nt a 0) 0) (get_or fs (get_or nt a 0 + 1) 0) a
  pub inside : (n : ℕ) → n < length ws → get_or fs (n + 1) 0 ≤ length ms
  pub starts : length at ≡ M + 1
  pub rises : (u : ℕ) → u < M → get_or at u 0 ≤ get_or at (u + 1) 0
  pub ends : (u : ℕ) → u < M → get_or at (u + 1) 0 ≤ length pl
  pub own : (u k : ℕ) → u < M → Pin (get_or at u 0) (get_or at (u + 1) 0) k → (get_or pl k 0 < length ms) × (get_or ms (get_or pl k 0) 0 ≡ u)
  pub all : (a : ℕ) → a < length ms → (k : ℕ) × Pin (get_or at (get_or ms a 0) 0) (get_or at (get_or ms a 0 + 1) 0) k × (get_or pl k 0 ≡ a)

-- a flow, and what the pins of each net send, are as long as the pins and the nets
pub record Fitted (ms ws sm : List ℕ) (fl : List ℤ) : Type 0 where
  pub flows : length fl ≡ length ms
  pub sums : length sm ≡ length ws

-- all that the search reads
pub record Whole (fs ms ws nt at pl sm : List ℕ) (fl : List ℤ) (M : ℕ) : Type 0 where
  pub tables : Tables fs ms ws nt at pl M
  pub firsts : length fs ≡ length ws + 1
  pub below : (p : ℕ) → p < length ms → get_or ms p 0 < M
  pub flows : length fl ≡ length ms
  pub sums : length sm ≡ length ws
  pub few : length ms < 16384

-- ---- the search

-- how m was reached: from a module of lower rank
pub record Link (bk : Bool) (fs ms ws : List ℕ) (fl : List ℤ) (sm nt : List ℕ) (s : St) (m : ℕ) : Type 0 where
  pub hop : Hop bk fs ws fl sm nt (kind (get_or s.w m 0)) (left (get_or s.w m 0)) (entered (get_or s.w m 0))
  pub to : get_or ms (entered (get_or s.w m 0)) 0 ≡ m
  pub from : In s.w (get_or ms (left (get_or s.w m 0)) 0)
  pub lower : rank (get_or s.w (get_or ms (left (get_or s.w m 0)) 0) 0) < rank (get_or s.w m 0)
  pub opens : kind (get_or s.w m 0) ≡ 0 → get_or s.sn (get_or nt (left (get_or s.w m 0)) 0) 0 ≡ left (get_or s.w m 0) + 2

-- the mark from which a search begins: the meters', or backwards the makers'
abbrev pub Mark : Bool → ℕ
Mark false = 1
Mark true = 2

pub record Sizes (mk ws : List ℕ) (s : St) : Type 0 where
  pub q : length s.q ≡ length mk
  pub w : length s.w ≡ length mk
  pub sn : length s.sn ≡ length ws
  pub few : length mk < 65535

-- the modules below i have been looked at: the t among them with the mark k are reached and queued, in order
pub record Begun (k : ℕ) (mk : List ℕ) (i : ℕ) (q w : List ℕ) (t : ℕ) : Type 0 where
  pub lw : length w ≡ length mk
  pub lq : length q ≡ length mk
  pub meters : (m : ℕ) → m < i → get_or mk m 0 ≡ k → In w m
  pub only : (m : ℕ) → m < i → In w m → get_or mk m 0 ≡ k
  pub place : (m : ℕ) → m < i → In w m → (j : ℕ) × (j < t) × (rank (get_or w m 0) ≡ j + 1) × (get_or q j 0 ≡ m)
  pub inq : (j : ℕ) → j < t → (get_or q j 0 < i) × (rank (get_or w (get_or q j 0) 0) ≡ j + 1)
  pub count : t + zeros (take i w) ≡ i

-- at the end: what was reached, no step leaves it, and each module in it has its link
pub record Found (bk : Bool) (fs ms ws : List ℕ) (fl : List ℤ) (sm nt mk : List ℕ) (s : St) : Type 0 where
  pub len : length s.w ≡ length mk
  pub ranks : (m : ℕ) → In s.w m → (0 < rank (get_or s.w m 0)) × (rank (get_or s.w m 0) ≤ length mk)
  pub meters : (m : ℕ) → m < length mk → get_or mk m 0 ≡ Mark bk → In s.w m
  pub link : (m : ℕ) → In s.w m → (get_or mk m 0 ≡ Mark bk) ⊎ Link bk fs ms ws fl sm nt s m
  pub closed : (a : ℕ) → a < length ms → In s.w (get_or ms a 0) → (k b : ℕ) → Hop bk fs ws fl sm nt k a b → In s.w (get_or ms b 0)
