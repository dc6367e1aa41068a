-- `audit::Flowed::balance` meets its contract, by each way out: two fresh arrays are empty tallies. Assumes nothing.
use Rattle.std.specs.Prelude.{ℕ, Result, Ok}
use Rattle.book.specs.declared.Refusal.{Refusal}
use Rattle.audit.specs.declared.Value.{Value}
use mathlib.Core.Path.{refl, sym, ap₂, ◌∙◌}
use Rattle.line.specs.Flow.{sent, taken}
use Rattle.audit.specs.Rules.{balance_of}
use Rattle.audit.proofs.Tallied.{fresh_empty, tally_small, tally_uneven, tally_meters}
use Rattle.audit.proofs.Flows.{sound_netlist}
use Rattle.audit.proofs.Flowed.balance.Goals as goal

abbrev valued : ℕ → ℕ → Result Value Refusal
valued x y = Ok (record { sent = x; taken = y })

pub tally-requires : goal.tally-requires
tally-requires c =
    let h = sound_netlist c.args.self.netlist in
    (fresh_empty _ h _ tt refl, fresh_empty _ h _ tt refl)

pub uneven_module-requires : goal.uneven_module-requires
uneven_module-requires c =
    let t = c.tally.ensures in
    (t.0.size, t.1.size)

pub returns-in-Some : goal.returns-in-Some
unfolding balance_of
returns-in-Some c =
    let t = c.tally.ensures in
    rw (sym (tally_uneven _ (sound_netlist c.args.self.netlist) _ _ _ t.0 t.1) ∙ sym c.uneven_module.ensures ∙ c.in-Some.is)

pub meter_sum-requires : goal.meter_sum-requires
meter_sum-requires c =
    let h = (sound_netlist c.args.self.netlist) in
    tally_small _ h _ sent _ c.tally.ensures.0

pub meter_sum-requires-2 : goal.meter_sum-requires-2
meter_sum-requires-2 c =
    let h = (sound_netlist c.args.self.netlist) in
    tally_small _ h _ taken _ c.tally.ensures.1

pub returns : goal.returns
unfolding balance_of
returns c =
    let h = (sound_netlist c.args.self.netlist) in
    let t = c.tally.ensures in
    rw (sym (tally_uneven _ h _ _ _ t.0 t.1) ∙ sym c.uneven_module.ensures ∙ c.in_default.is)
    (ap₂ (λ (x y : ℕ). valued x y) (c.meter_sum.ensures ∙ tally_meters _ h _ sent _ t.0) (c.meter_sum-2.ensures ∙ tally_meters _ h _ taken _ t.1))
