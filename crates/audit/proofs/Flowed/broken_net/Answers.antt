-- `audit::Flowed::broken_net` meets its contract: no net before `n` breaks the rule, and `first` is where the pins of net `n` begin. Assumes nothing.
use mathlib.Core.Path.{refl, sym, ◌∙◌}
use native.Mathlib.Omega.{arith}
use Rattle.book.proofs.CardLaws.{first_pin-suc}
use Rattle.book.proofs.Firsts.{lowest_more, lowest_found, lowest_ended}
use Rattle.book.specs.Format.{first_pin}
use Rattle.book.specs.First.{first, lowest}
use Rattle.audit.specs.Rules.{check11}
use Rattle.audit.proofs.Flowed.broken_net.Goals as goal

pub loop-n-init : goal.loop-n-init
unfolding lowest first first_pin
loop-n-init c = (refl, refl, omega arith)

pub returns-then-net_breaks : goal.returns-then-net_breaks
unfolding check11
returns-then-net_breaks c = sym (lowest_found _ c.loop-n.n _ c.loop-n.invariant.0 (sym c.net_breaks.ensures ∙ c.if-net_breaks.true) (omega arith))

pub loop-n-preserved : goal.loop-n-preserved
loop-n-preserved c = (
  lowest_more _ c.loop-n.n c.loop-n.invariant.0 (sym c.net_breaks.ensures ∙ c.if-net_breaks.false),
  omega (arith, first_pin-suc c.args.self.netlist.bytes.now c.loop-n.n),
  omega arith,
)

pub returns : goal.returns
unfolding check11
returns c = sym (lowest_ended _ c.loop-n.n _ c.loop-n.invariant.0 (omega arith))
