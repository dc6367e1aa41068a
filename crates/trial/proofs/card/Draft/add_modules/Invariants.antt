use Rattle.std.proofs.Common.{◌≡◌, ◌++◌, take}
use Rattle.trial.specs.Cards.{module_records}
use Rattle.trial.proofs.card.Draft.add_modules.Given as goal

abbrev pub invariant-loop-m : goal.invariant-loop-m
invariant-loop-m l =
    (l.self.modules.items ≡ l.initial.self.modules.items ++ module_records (take l.m-index l.modules))
    × (l.self.nets.items ≡ l.initial.self.nets.items)
    × (l.self.pins.items ≡ l.initial.self.pins.items)
