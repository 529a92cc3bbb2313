-- `fit_linear::inner::Rows::reduce_columns` meets its contract: one column after the other is solved. Invariant: the rows hold the matrix with its first c
-- columns solved (`RowsEliminated` by `columns_solved`). A column that is solved is one more (`columns-more`). The ways out: a singular column makes the
-- whole singular (`columns-singular`); where c is n, the invariant is the contract.
use Rattle.std.proofs.Common.{◌≤◌, Ok}
use Rattle.fit_linear.specs.Arithmetic.{rounded}
use Rattle.fit_linear.specs.Elimination.{columns_solved}
use Rattle.fit_linear.specs.InnerMatrix.{matrix_in, RowsEliminated}
use Rattle.fit_linear.proofs.inner.Rows.reduce_columns.Given as goal

abbrev pub invariant-loop-c : goal.invariant-loop-c
invariant-loop-c l = let m = l.fn.self in (l.c ≤ m.n) × RowsEliminated (columns_solved rounded m.n (matrix_in m) l.c) m (Ok tt) l.self
