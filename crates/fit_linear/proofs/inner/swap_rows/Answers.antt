use Rattle.std.proofs.Common.{◌*◌, ◌+◌, arith}
use Rattle.std.proofs.lemmas.List.Edits.{swap_is}
use Rattle.std.specs.Float.{nan}
use Rattle.fit_linear.proofs.Parts.{rows_apart, swapped-more}
use Rattle.fit_linear.proofs.inner.swap_rows.Goals as goal

pub loop-k-preserved : goal.loop-k-preserved
loop-k-preserved c =
    let l = c.loop-k in
    let a = c.args in
    rw (c.swap.ensures.after, ← swap_is l.rows (a.c * a.w + l.k) (a.p * a.w + l.k) nan (omega arith) (omega arith))
    (swapped-more (rows_apart a.w a.c a.p c.if-c-p.false) (omega arith) l.invariant (omega arith) (omega arith))
