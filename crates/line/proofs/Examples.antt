-- A path through Bridge from the flow of zeros: its least room is 1, and pushing that makes document 01's flow, which is fair. Assumes nothing.
use mathlib.Core.Path.{◌≡◌, refl}
use mathlib.Core.Bool.{false}
use mathlib.Core.Logic.{◌≢◌, inl}
use mathlib.Core.List.{List, [], ◌∷◌}
use Prim.Native.Nat.{ℕ}
use native.Mathlib.Omega.{arith}
use lib.IntN.{ℤ, pos, negsuc}
use lib.ListN.{get_or, replicate}
use lib.Dec.{lit≤, lit<}
use Rattle.line.specs.Card.{Card, all_pins}
use Rattle.line.specs.Flow.{total_sent}
use Rattle.line.proofs.Ways.{plainly, FairBy}
use Rattle.line.proofs.Index.{start}
use Rattle.line.proofs.Push.{push}
use Rattle.line.proofs.Path.{Step, Apart, AllOf, Pairwise, Leads, Ready, push_step, push_all, least, augment_fair}
use Rattle.line.proofs.Search.{still_replicate, still_fair}

-- four modules in a row, nets of weight 2, 1 and 2 between them
abbrev bridge : Card
bridge = record {
  modules = 4;
  mark = λ m. get_or (1 ∷ 0 ∷ 0 ∷ 2 ∷ []) m 0;
  nets = record { weight = 2; pins = 0 ∷ 1 ∷ [] } ∷ record { weight = 1; pins = 1 ∷ 2 ∷ [] } ∷ record { weight = 2; pins = 2 ∷ 3 ∷ [] } ∷ [];
}

abbrev through : ℕ → Step
through e = record { net = e; a = 0; b = 1; undo_a = false; undo_b = false }

abbrev path : List Step
path = through 0 ∷ through 1 ∷ through 2 ∷ []

abbrev zeros : List ℤ
zeros = replicate 6 (pos 0)

path_least : least bridge zeros 65535 path ≡ 1
unfolding least start total_sent
path_least = refl

path_pushed : push_all bridge zeros 1 path ≡ pos 1 ∷ negsuc 0 ∷ pos 1 ∷ negsuc 0 ∷ pos 1 ∷ negsuc 0 ∷ []
unfolding push_all push_step push start
path_pushed = refl

path_ready : Ready plainly bridge zeros 1 path
unfolding AllOf Pairwise start total_sent all_pins
path_ready = record {
  long = lit≤ tt;
  sound = (
    record { net = lit< tt; a = lit< tt; b = lit< tt; moves = λ e. omega (arith, e); sends = λ _. tt; takes = λ _. tt },
    (
      record { net = lit< tt; a = lit< tt; b = lit< tt; moves = λ e. omega (arith, e); sends = λ _. tt; takes = λ _. tt },
      (record { net = lit< tt; a = lit< tt; b = lit< tt; moves = λ e. omega (arith, e); sends = λ _. tt; takes = λ _. tt }, tt),
    ),
  );
  spare = (
    record { less = λ h. absurd h; back = λ h. absurd h; room = λ _ _. lit≤ tt },
    (record { less = λ h. absurd h; back = λ h. absurd h; room = λ _ _. lit≤ tt }, (record { less = λ h. absurd h; back = λ h. absurd h; room = λ _ _. lit≤ tt }, tt)),
  );
  apart = ((apart 0 1 (λ e. omega (arith, e)), (apart 0 2 (λ e. omega (arith, e)), tt)), ((apart 1 2 (λ e. omega (arith, e)), tt), (tt, tt)));
}
  where
    apart : (e k : ℕ) → e ≢ k → Apart (through e) (through k)
    apart e k n = record { left = λ q. absurd (n q); entered = λ q. absurd (n q); rooms = λ q. absurd (n q) }

path_leads : FairBy plainly bridge (push_all bridge zeros (least bridge zeros 65535 path) path)
unfolding Leads
path_leads =
    augment_fair plainly bridge zeros 65535 path (still_fair plainly bridge zeros (still_replicate 6)) path_ready (lit≤ tt) 0 3 (inl (refl, (refl, (refl, refl)))) refl refl
