-- `fit_linear::inner::clear_rows` meets its contract: column c of n rows is cleared by the row `top`. Invariant: the first r rows are cleared, all else is as
-- it was (`Becomes`). Row r is not written yet, and the callee clears it as the contract says (`rows-more`).
use Rattle.fit_linear.specs.Arithmetic.{rounded}
use Rattle.fit_linear.specs.Elimination.{cleared}
use Rattle.fit_linear.specs.Inner.{float_at, rows_of, Becomes}
use Rattle.fit_linear.proofs.inner.clear_rows.Given as goal

abbrev pub invariant-loop-r : goal.invariant-loop-r
invariant-loop-r l =
    Becomes l.r l.w (λ r. cleared rounded (rows_of l.w l.fn.rows r l.c) (rows_of l.w l.fn.rows r) (float_at l.top)) l.fn.rows l.rows
