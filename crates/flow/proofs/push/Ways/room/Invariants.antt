-- `flow::push::Ways::room` meets its contract: `n.room` and the room from `u` on are the room of the whole way; the measure is the rank of `u`. Assumes nothing.
use mathlib.Core.Path.{◌≡◌}
use Prim.Native.Nat.{ℕ, suc, min, ◌≤◌, ◌<◌}
use lib.ListN.{length, get_or}
use Rattle.flow.specs.Push.{way_room}
use Rattle.flow.specs.Search.{In, rank}
use Rattle.flow.proofs.push.Ways.room.Given as goal

abbrev pub invariant-loop-u : goal.invariant-loop-u
invariant-loop-u l =
    let s = l.self in
    In s.how.now l.u × (l.n.room ≤ 65535) × ((k : ℕ) × (rank (get_or s.how.now l.u 0) < k) × (min l.n.room (way_room s.mods.now s.weight.now s.nets.now s.mark.now s.how.now l.sums l.flow k l.u) ≡ way_room s.mods.now s.weight.now s.nets.now s.mark.now s.how.now l.sums l.flow (suc (length s.mark.now)) l.z))

abbrev pub decreases-loop-u : goal.decreases-loop-u
decreases-loop-u l =
    rank (get_or l.self.how.now l.u 0)
