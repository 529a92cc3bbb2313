-- `floats::plus_zero` meets its contract: what equals zero is a zero of either sign, since the argument is a float that binary64 holds (`plus-zero`); any other
-- float stays (`plus-other`).
use mathlib.Core.Path.{sym, subst}
use lib.Dec.{T}
use Rattle.floats.proofs.Helpers.{plus-zero, plus-other}
use Rattle.floats.proofs.plus_zero.Goals as goal

pub returns-then-x : goal.returns-then-x
returns-then-x c = plus-zero _ (subst T (sym c.well_formed.0.1) tt) c.if-x.true

pub returns-else-x : goal.returns-else-x
returns-else-x c = plus-other _ c.if-x.false
