use Rattle.std.proofs.Common.{◌≡◌, ◌++◌, take}
use Rattle.trial.specs.Cards.{pin_records}
use Rattle.trial.proofs.card.Draft.add_pins.Given as goal

abbrev pub invariant-loop-m : goal.invariant-loop-m
invariant-loop-m l =
    (l.self.pins.items ≡ l.initial.self.pins.items ++ pin_records (take l.m-index l.pins))
    × (l.self.modules.items ≡ l.initial.self.modules.items)
    × (l.self.nets.items ≡ l.initial.self.nets.items)
