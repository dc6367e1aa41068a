-- `share_band` meets its contract: the code is the expression that the definition writes. The constant 1.0 is a bit pattern in the code, which `of_bits` reads. Assumes nothing.
use borrow.Author.Rules.{rules}
use lib.Ieee.{of_bits}
use Rattle.gate.proofs.share_band.Goals as goal

pub returns : goal.returns
unfolding of_bits
returns c = search rules
