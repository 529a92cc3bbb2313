-- `fit_linear::inner::swap_rows` meets its contract: rows c and p change places. A row with itself: nothing is done. Else the invariant: the
-- first k floats of the two rows have changed places, all else is as it was (`Swapped`). Two rows are apart (`rows_apart`), so one exchange
-- touches no other float of them (`swapped-more`). At the end k is w.
use Rattle.fit_linear.specs.Inner.{Swapped}
use Rattle.fit_linear.proofs.inner.swap_rows.Given as goal

abbrev pub invariant-loop-k : goal.invariant-loop-k
invariant-loop-k l = Swapped l.a l.b l.k l.fn.rows l.rows
