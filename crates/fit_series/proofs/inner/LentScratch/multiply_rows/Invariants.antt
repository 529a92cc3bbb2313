-- `fit_series::inner::LentScratch::multiply_rows` meets its contract: for any list, where its product's first `first` numbers stand in next at entry, R more
-- a round do. Invariant: for any such list the first `first` + b R do (`ProductTo`); and of a round's R numbers the first q are written (`Filled`). The rows
-- and the vector lie before next, so they are as in that list, and the dot products of the next R rows are the next R numbers (`product-more`).
use Rattle.std.proofs.Common.{◌+◌, ◌*◌, List}
use Rattle.std.specs.Prelude.{Float}
use Rattle.fit_linear.specs.Inner.{float_at, Filled}
use Rattle.fit_series.specs.Inner.{ProductTo}
use Rattle.fit_series.proofs.inner.LentScratch.multiply_rows.Given as goal

abbrev pub invariant-loop-b : goal.invariant-loop-b
invariant-loop-b g l = (m : List Float) → ProductTo l.n l.v l.first m l.fn.self.floats.now → ProductTo l.n l.v (l.first + l.b * g.row.R) m l.floats

abbrev pub invariant-loop-q : goal.invariant-loop-q
invariant-loop-q g l = Filled (l.next + l.r) l.q (float_at l.sums) l.initial.floats l.floats
