-- `fit_linear::inner::Rows::find_pivot` meets its contract: the row of the greatest size in column c, from the diagonal down. Invariant: of rows c to r − 1,
-- `best` is the row that `pivot_row` finds (`Pivoting`). Row r is taken where it is as great (`pivoting-taken`), else the best stays (`pivoting-left`). At the
-- end r is n.
use Rattle.fit_linear.specs.InnerMatrix.{matrix_in}
use Rattle.fit_linear.proofs.Pivot.{Pivoting}
use Rattle.fit_linear.proofs.inner.Rows.find_pivot.Given as goal

abbrev pub invariant-loop-r : goal.invariant-loop-r
invariant-loop-r l = Pivoting l.self.n (matrix_in l.self) l.c l.best l.r
