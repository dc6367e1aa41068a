-- The proof of the cycle of calls {put_decimal}: the number falls to its tenth. Assumes nothing.
use Rattle.view.proofs.text.+put_decimal.Given as goal

abbrev pub decreases-put_decimal : goal.decreases-put_decimal
decreases-put_decimal l = l.n
