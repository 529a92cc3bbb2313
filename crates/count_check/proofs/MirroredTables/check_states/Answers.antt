use mathlib.Core.Path.{◌∙◌, sym}
use Rattle.std.proofs.lemmas.Result.{err_from_is_err_and}
use Rattle.refusals.proofs.Refusals.{first_step, first-stop}
use Rattle.count_check.proofs.MirroredTables.check_states.Goals as goal

pub returns-in_err-check_state : goal.returns-in_err-check_state
returns-in_err-check_state g c =
    let l = c.loop-i in
    let k = c.check_state in
    let p = err_from_is_err_and c.from_residual.result c.from_residual.ensures.1 in
    rw (p.1, p.2)
    (sym (l.invariant ∙ first-stop _ l.i c.args.self.now.n k.result _ c.loop-i-test.true k.ensures c.in_err-check_state.was ∙ c.in_err-check_state.was))

pub loop-i-preserved : goal.loop-i-preserved
loop-i-preserved g c =
    let l = c.loop-i in
    let k = c.check_state in
    l.invariant ∙ first_step _ l.i c.args.self.now.n k.result c.loop-i-test.true k.ensures c.in_ok-check_state.was
