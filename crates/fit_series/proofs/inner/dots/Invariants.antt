-- `fit_series::inner::dots` meets its contract: the dot products of R rows with one vector, each left to right. Invariant: each sum is the dot product of the
-- first k floats of its row with the first k of the vector; in a round, of those of the first r rows, of k + 1 (`Dotting`). A step adds one product to one sum,
-- which is the definition's step; the start is minus zero, as the definition's.
use Rattle.fit_series.proofs.Products.{Dotting}
use Rattle.fit_series.proofs.inner.dots.Given as goal

abbrev pub invariant-loop-k : goal.invariant-loop-k
invariant-loop-k g l = Dotting g.row.R l.i l.w l.j l.s l.k 0 l.sums

abbrev pub invariant-loop-r : goal.invariant-loop-r
invariant-loop-r g l = Dotting g.row.R l.i l.w l.j l.s l.k l.r l.sums
