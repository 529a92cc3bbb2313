-- `fit_series::inner::LentScratch::copy_column` meets its contract: n places from `to` on become column c. Invariant: the first k hold the column, all else
-- is as it was (`Filling`). The float that is read is that of the entry, for no place of the column is written before it is read (`unwritten`), so it is the
-- next of the part (`filling-more`). It lies in the list, as the contract requires (`inside`).
use Rattle.fit_linear.specs.Inner.{rows_of}
use Rattle.fit_linear.proofs.Parts.{Filling}
use Rattle.fit_series.specs.Inner.{width}
use Rattle.fit_series.specs.InnerLent.{Changed}
use Rattle.fit_series.proofs.inner.LentScratch.copy_column.Given as goal

abbrev pub invariant-loop-k : goal.invariant-loop-k
invariant-loop-k l = Changed (λ n s m. Filling l.to n (λ k. rows_of (width n) s k l.c) s l.k m) l.fn.self l.self
