-- `history_replay::inner::replay_restore` meets its contract: an image of another configuration that restore would take is left out; else the bytes are
-- restored into the calibrator's own record and tables, and a refused restore leaves the memory as it was (`restore-ends`).
use Rattle.std.proofs.lemmas.Result.{err_from_is_err_and}
use Rattle.tally.specs.Lent.{tables_of}
use Rattle.calibrator.specs.Record.{memory_with}
use Rattle.history_replay.proofs.Steps.{restore-ends}
use Rattle.history_replay.proofs.inner.replay_restore.Goals as goal

pub returns-in_err-restore-clause-ends : goal.returns-in_err-restore-clause-ends
returns-in_err-restore-clause-ends c =
    let a = c.args in
    let v = c.view.ensures in
    let p = err_from_is_err_and c.from_residual.result c.from_residual.ensures.1 in
    rw (p.1, p.2)
    (restore-ends a.config (memory_with a.rec.now (tables_of a.tables.now)) a.bytes.now
    (rw (v.stay, v.moved, v.totals) at c.is_foreign.ensures) c.if-is_foreign.false (rw c.in_err-restore.was at c.restore.ensures.left))

pub returns-clause-ends : goal.returns-clause-ends
returns-clause-ends c =
    let a = c.args in
    let v = c.view.ensures in
    restore-ends a.config (memory_with a.rec.now (tables_of a.tables.now)) a.bytes.now
    (rw (v.stay, v.moved, v.totals) at c.is_foreign.ensures) c.if-is_foreign.false (rw c.in_ok-restore.was at c.restore.ensures.left)
