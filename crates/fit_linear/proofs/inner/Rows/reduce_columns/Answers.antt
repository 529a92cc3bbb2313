use Rattle.std.proofs.Common.{arith}
use Rattle.fit_linear.proofs.Columns.{error-is, columns-none, columns-more, columns-singular}
use Rattle.fit_linear.proofs.inner.Rows.reduce_columns.Goals as goal

pub loop-c-init : goal.loop-c-init
loop-c-init c = (omega arith, columns-none)

pub returns-in_err-reduce_column : goal.returns-in_err-reduce_column
returns-in_err-reduce_column c =
    rw (error-is c.from_residual.result c.from_residual.ensures.0)
    (columns-singular (omega arith) c.loop-c.invariant.1 c.reduce_column.ensures c.in_err-reduce_column.was)

pub loop-c-preserved : goal.loop-c-preserved
loop-c-preserved c = (omega arith, columns-more (omega arith) c.loop-c.invariant.1 c.reduce_column.ensures c.in_ok-reduce_column.was)
