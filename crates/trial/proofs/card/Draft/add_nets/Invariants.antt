use Rattle.std.proofs.Common.{◌≡◌, ◌++◌, take}
use Rattle.trial.specs.Cards.{net_records, all_pins}
use Rattle.trial.proofs.card.Draft.add_nets.Given as goal

abbrev pub invariant-loop-net : goal.invariant-loop-net
invariant-loop-net l =
    (l.self.nets.items ≡ l.initial.self.nets.items ++ net_records (take l.net-index l.nets))
    × (l.self.pins.items ≡ l.initial.self.pins.items ++ all_pins (take l.net-index l.nets))
    × (l.self.modules.items ≡ l.initial.self.modules.items)
