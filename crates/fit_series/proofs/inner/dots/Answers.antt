use Rattle.std.proofs.Common.{refl, arith}
use Rattle.std.specs.Float.Ieee.{of_bits, neg}
use Rattle.fit_series.proofs.Products.{dotting-none, dotting-more}
use Rattle.fit_series.proofs.inner.dots.Goals as goal

pub loop-k-init : goal.loop-k-init
unfolding of_bits neg
loop-k-init g c = dotting-none

pub loop-r-preserved : goal.loop-r-preserved
loop-r-preserved g c = dotting-more c.loop-r.invariant (omega arith) refl
