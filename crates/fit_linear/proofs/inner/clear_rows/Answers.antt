use Rattle.std.proofs.Common.{◌+◌, ◌-◌, ◌*◌, ◌≡◌, length, arith}
use Rattle.basics.proofs.Tests.{row_in}
use Rattle.fit_linear.specs.Inner.{float_at}
use Rattle.fit_linear.proofs.Rows.{rows-more, row-cleared}
use Rattle.fit_linear.proofs.inner.clear_rows.Goals as goal

pub loop-r-preserved : goal.loop-r-preserved
loop-r-preserved c =
    let a = c.args in
    let w = length a.top.now in
    let r = c.loop-r.r in
    let row = row_in r a.n w c.loop-r-test.true in
    let whole : r * w + w - r * w ≡ w = omega arith in
    rw whole
    (rows-more c.loop-r.invariant
    (row-cleared w a.c r (float_at a.top.now) c.clear_row.new.row (omega arith) (omega arith) c.loop-r.invariant (omega arith) c.clear_row.ensures))
