use Rattle.std.specs.Prelude.{None}
use mathlib.Core.Path.{◌≡◌, sym, ◌∙◌, ap₂}
use mathlib.Core.Bool.{true, false, ◌||◌}
use Rattle.book.specs.Checks.{counted, check3, check4, check5, lacks, rest_of}
use Rattle.book.proofs.Laid.{counted_nets, sum_right}
use Rattle.book.proofs.layout.Layout.read.Goals as goal
use Rattle.book.proofs.layout.Layout.read.Goals.{Else-not-is_counted, In_default, In_default-bad_net, In_default-bad_pin}

-- what each check that has passed tells
passed2 : (c : Else-not-is_counted) → counted c.args.self.bytes.now ≡ true
passed2 c = sym c.is_counted.ensures ∙ c.if-not-is_counted.false

passed3 : (c : In_default) → check3 c.args.self.bytes.now ≡ None
passed3 c = sym c.bad_module.ensures ∙ c.in_default.is

passed4 : (c : In_default-bad_net) → check4 c.args.self.bytes.now ≡ None
passed4 c = sym c.bad_net.ensures ∙ c.in_default-bad_net.is

passed5 : (c : In_default-bad_pin) → check5 c.args.self.bytes.now ≡ None
passed5 c = sym c.bad_pin.ensures ∙ c.in_default-bad_pin.is

pub returns-then-not-is_counted : goal.returns-then-not-is_counted
unfolding rest_of
returns-then-not-is_counted c =
    let e : counted c.args.self.bytes.now ≡ false = sym c.is_counted.ensures ∙ c.if-not-is_counted.true in
    rw e

pub returns-in-Some : goal.returns-in-Some
unfolding rest_of
returns-in-Some c = rw (passed2 (goal.at.returns-in-Some c).Else-not-is_counted, sym c.bad_module.ensures ∙ c.in-Some.is)

pub bad_net-requires : goal.bad_net-requires
bad_net-requires c = counted_nets _ (passed2 (goal.at.bad_net-requires c).Else-not-is_counted)

pub returns-in-Some-bad_net : goal.returns-in-Some-bad_net
unfolding rest_of
returns-in-Some-bad_net c =
    rw (passed2 (goal.at.returns-in-Some-bad_net c).Else-not-is_counted, passed3 (goal.at.returns-in-Some-bad_net c).In_default, sym c.bad_net.ensures ∙ c.in-Some-bad_net.is)

pub bad_pin-requires : goal.bad_pin-requires
bad_pin-requires c = sum_right _ (passed4 (goal.at.bad_pin-requires c).In_default-bad_net)

pub returns-in-Some-bad_pin : goal.returns-in-Some-bad_pin
unfolding rest_of
returns-in-Some-bad_pin c =
    rw (passed2 (goal.at.returns-in-Some-bad_pin c).Else-not-is_counted, passed3 (goal.at.returns-in-Some-bad_pin c).In_default, passed4 (goal.at.returns-in-Some-bad_pin c).In_default-bad_net, sym c.bad_pin.ensures ∙ c.in-Some-bad_pin.is)

pub returns-then-lacks : goal.returns-then-lacks
unfolding rest_of
returns-then-lacks c =
    let s = c.args.self.bytes.now in
    let e : (lacks s 1 || lacks s 2) ≡ true = ap₂ ◌||◌ (sym c.lacks.ensures) (sym c.lacks-2.ensures) ∙ c.if-lacks.true in
    rw (passed2 (goal.at.returns-then-lacks c).Else-not-is_counted, passed3 (goal.at.returns-then-lacks c).In_default, passed4 (goal.at.returns-then-lacks c).In_default-bad_net, passed5 (goal.at.returns-then-lacks c).In_default-bad_pin, e)

pub returns : goal.returns
unfolding rest_of
returns c =
    let s = c.args.self.bytes.now in
    let e : (lacks s 1 || lacks s 2) ≡ false = ap₂ ◌||◌ (sym c.lacks.ensures) (sym c.lacks-2.ensures) ∙ c.if-lacks.false in
    rw (passed2 (goal.at.returns c).Else-not-is_counted, passed3 (goal.at.returns c).In_default, passed4 (goal.at.returns c).In_default-bad_net, passed5 (goal.at.returns c).In_default-bad_pin, e) (rw (c.modules.ensures, c.nets.ensures, c.pins.ensures))
