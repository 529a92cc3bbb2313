use Rattle.std.proofs.Common.{refl, add-one}
use Rattle.std.specs.Float.Ieee.{of_bits}
use Rattle.fit_series.specs.Series.{largest}
use Rattle.fit_series.proofs.inner.largest_of.Goals as goal

pub loop-x-init : goal.loop-x-init
unfolding largest of_bits
loop-x-init c = refl

pub loop-x-preserved : goal.loop-x-preserved
unfolding largest
loop-x-preserved c = rw (add-one, c.max-largest.ensures, c.abs.ensures, c.loop-x.invariant)
