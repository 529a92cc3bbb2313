-- `fit_series::inner::largest_of` meets its contract: the largest size. Invariant: `largest` is the largest size of the floats so far. A round is the
-- definition's step, by the contracts of `floats::abs` and `floats::max`; the start is zero, as the definition's.
use Rattle.std.proofs.Common.{◌≡◌}
use Rattle.fit_linear.specs.Arithmetic.{rounded}
use Rattle.fit_linear.specs.Inner.{float_at}
use Rattle.fit_series.specs.Series.{largest}
use Rattle.fit_series.proofs.inner.largest_of.Given as goal

abbrev pub invariant-loop-x : goal.invariant-loop-x
invariant-loop-x l = l.largest ≡ largest rounded l.x-index (float_at l.v)
