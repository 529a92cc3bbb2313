use mathlib.Core.Path.{◌∙◌, sym}
use Rattle.std.proofs.lemmas.Result.{err_from_is_err_and}
use Rattle.refusals.proofs.Refusals.{first_step, first-stop}
use Rattle.model_check.proofs.inner.ModelTable.check_rows.Goals as goal

pub returns-in_err-check_row : goal.returns-in_err-check_row
returns-in_err-check_row c =
    let l = c.loop-i in
    let k = c.check_row in
    let p = err_from_is_err_and c.from_residual.result c.from_residual.ensures.1 in
    rw (p.1, p.2)
    (sym (l.invariant.0 ∙ first-stop _ l.i c.state_count-i-end.result k.result _ c.loop-i-test.true k.ensures c.in_err-check_row.was ∙ c.in_err-check_row.was))

pub loop-i-preserved : goal.loop-i-preserved
loop-i-preserved c =
    let l = c.loop-i in
    let k = c.check_row in
    (l.invariant.0 ∙ first_step _ l.i c.state_count-i-end.result k.result c.loop-i-test.true k.ensures c.in_ok-check_row.was, c.level_after-level.ensures)
