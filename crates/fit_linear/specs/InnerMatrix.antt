-- The matrix that lent rows hold, and what elimination leaves there.
use Rattle.std.specs.Prelude.{ℕ, ◌≡◌, Float, ⊤, Result}
use Rattle.fit_linear.specs.Elimination.{Elimination}
use Rattle.fit_linear.specs.Inner.{rows_of, Eliminated}
use Rattle.fit_linear.specs.declared.Singular.{Singular}
use Rattle.fit_linear.specs.declared.inner.Rows.{Rows}

abbrev pub matrix_in : Rows → ℕ → ℕ → Float
matrix_in m = rows_of m.w m.floats.now

-- the answer, and its matrix in the rows: as many of the same slice, as wide
pub record RowsEliminated (a : Elimination Float) (before : Rows) (answer : Result ⊤ Singular) (after : Rows) : Type 0 where
  pub number : after.n ≡ before.n
  pub width : after.w ≡ before.w
  pub slice : after.floats.ghost_name ≡ before.floats.ghost_name
  pub eliminated : Eliminated before.n before.w a before.floats.now answer after.floats.now
