use Rattle.std.proofs.Common.{◌*◌, ◌+◌, arith}
use Rattle.fit_linear.proofs.Parts.{filling-ahead, filling-more}
use Rattle.fit_series.proofs.inner.add_column.Goals as goal

pub loop-k-preserved : goal.loop-k-preserved
loop-k-preserved c =
    let a = c.args in
    let k = c.loop-k.k in
    let f = c.loop-k.invariant in
    filling-more f _ (omega arith) c.requires.0.enough
    (rw (f.part.elsewhere (k * a.w + a.c) (c.requires.0.unwritten k (omega arith)), filling-ahead f (a.v + k) (omega arith)))
