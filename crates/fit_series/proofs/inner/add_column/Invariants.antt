-- `fit_series::inner::add_column` meets its contract: n places from `to` on become column c plus the n places from v on. Invariant: the first k hold their
-- sums, all else is as it was (`Filling`). Both floats that are read are those of the entry: no place of the column is written before it is
-- read (`unwritten`), and v lies behind the part that is written. So their sum is the next of the part (`filling-more`).
use Rattle.std.specs.Float.{binary64}
use Rattle.std.specs.Float.Ieee.{add}
use Rattle.fit_linear.specs.Inner.{from, rows_of}
use Rattle.fit_linear.proofs.Parts.{Filling}
use Rattle.fit_series.proofs.inner.add_column.Given as goal

abbrev pub invariant-loop-k : goal.invariant-loop-k
invariant-loop-k l = Filling l.to l.n (λ k. add binary64 (rows_of l.w l.fn.s k l.c) (from l.v l.fn.s k)) l.fn.s l.k l.s
