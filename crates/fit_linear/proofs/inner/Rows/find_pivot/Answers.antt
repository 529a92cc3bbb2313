use Rattle.std.proofs.Common.{arith}
use Rattle.fit_linear.proofs.Pivot.{pivoting-none, pivoting-taken, pivoting-left}
use Rattle.fit_linear.proofs.inner.Rows.find_pivot.Goals as goal
use Rattle.fit_linear.proofs.inner.Rows.find_pivot.Goals.{then-as_great, else-as_great}

pub loop-r-init : goal.loop-r-init
loop-r-init c = pivoting-none (omega arith)

pub loop-r-preserved : goal.loop-r-preserved
loop-r-preserved c =
    let s = c.loop-r.invariant in
    let tested = rw (c.size.ensures, c.size-in-loop-r.ensures) at c.as_great.ensures in
    elim c.if-as_great.branch [
      | then-as_great w ↦ pivoting-taken s c.loop-r-test.true tested w.if-as_great.true w.best-is
      | else-as_great w ↦ pivoting-left s c.loop-r-test.true tested w.if-as_great.false w.best-is
    ]
