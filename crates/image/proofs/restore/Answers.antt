-- `image::restore` meets its contract: it keeps the record that the work by value answers; a refusal is passed on, and the record stays. No loop.
use Rattle.std.proofs.lemmas.Result.{err_from_is_err_and}
use Rattle.image.proofs.restore.Goals as goal

pub returns-in_err-taken-clause-left : goal.returns-in_err-taken-clause-left
returns-in_err-taken-clause-left c =
    let p = err_from_is_err_and c.from_residual.result c.from_residual.ensures.1 in
    rw (p.1, p.2) (rw c.in_err-taken.was at (c.restore.ensures.left c.args.rec.now))

pub returns-clause-left : goal.returns-clause-left
returns-clause-left c = rw c.in_ok-taken.was at (c.restore.ensures.left c.args.rec.now)
