-- Which card the arrays are: fs the first pin of each net and the end of the last, ms the module of each pin, ws the weights, mk the marks. This page holds definitions only.
use Rattle.std.specs.Prelude.{◌≡◌, List, [], ◌∷◌, ℕ, ◌+◌, ◌-◌, ◌≤◌, ◌<◌, length, take, drop, get_or, ℤ, ltb, eqb}
use Rattle.line.specs.Card.{Net, Card, Side, all_pins}
use Rattle.line.specs.Flow.{sent, taken, total_sent}
use Rattle.line.proofs.Index.{net_at, start, numbers}
use Rattle.line.proofs.Path.{Step}
use Rattle.flow.specs.Search.{left, kind, entered}

-- a number within a weight of 0
pub record Small (z : ℤ) : Type 0 where
  pub sent : sent z ≤ 65535
  pub taken : taken z ≤ 65535

-- the nets from number e on
unfoldable pub nets_from : List ℕ → List ℕ → ℕ → List ℕ → List Net
nets_from fs ms e [] = []
nets_from fs ms e (w ∷ ws) = record { weight = w; pins = take (get_or fs (e + 1) 0 - get_or fs e 0) (drop (get_or fs e 0) ms) } ∷ nets_from fs ms (e + 1) ws

unfoldable pub card_of : List ℕ → List ℕ → List ℕ → List ℕ → Card
card_of fs ms ws mk = record { modules = length mk; mark = λ m. get_or mk m 0; nets = nets_from fs ms 0 ws }

-- the arrays are those of a card: the nets' pins follow one another, each names a module, and a mark is at most 2
pub record Laid (fs ms ws mk : List ℕ) : Type 0 where
  pub firsts : length fs ≡ length ws + 1
  pub begins : get_or fs 0 0 ≡ 0
  pub rises : (n : ℕ) → n < length ws → get_or fs n 0 ≤ get_or fs (n + 1) 0
  pub ends : get_or fs (length ws) 0 ≡ length ms
  pub below : (p : ℕ) → p < length ms → get_or ms p 0 < length mk
  pub marks : (m : ℕ) → m < length mk → get_or mk m 0 ≤ 2

-- nt names the net of each pin
pub record Grid (c : Card) (ms nt : List ℕ) : Type 0 where
  pub pins : all_pins c.nets ≡ ms
  pub net : (a : ℕ) → a < length ms → get_or nt a 0 < length c.nets
  pub low : (a : ℕ) → a < length ms → start c.nets (get_or nt a 0) ≤ a
  pub high : (a : ℕ) → a < length ms → a < start c.nets (get_or nt a 0) + length (net_at c.nets (get_or nt a 0)).pins

-- sm is what the pins of each net send
pub record Sums (c : Card) (sm : List ℕ) (fl : List ℤ) : Type 0 where
  pub len : length sm ≡ length c.nets
  pub sum : (e : ℕ) → e < length c.nets → get_or sm e 0 ≡ total_sent (numbers c.nets fl e)

-- the set that a list is, as a side
abbrev pub side_of : List ℕ → Side
side_of w m = ltb 0 (get_or w m 0)

-- ---- the step that a module's number tells, and the search as the theory has it

abbrev pub step_of : Card → List ℕ → ℕ → Step
step_of c nt x = record {
  net = get_or nt (left x) 0;
  a = left x - start c.nets (get_or nt (left x) 0);
  b = entered x - start c.nets (get_or nt (left x) 0);
  undo_a = eqb (kind x) 1;
  undo_b = eqb (kind x) 2;
}

abbrev pub up_of : Card → List ℕ → List ℕ → ℕ → Step
up_of c nt w m = step_of c nt (get_or w m 0)
