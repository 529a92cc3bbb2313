-- `history_replay::inner::replay_call` meets its contract: a quote (the search), a save (`save-steps`), a restore (`restore-steps`).
use mathlib.Core.Path.{subst}
use lib.ListN.{length}
use Rattle.std.proofs.lemmas.Result.{err_from_is_err_and}
use Rattle.tally.specs.Lent.{tables_of}
use Rattle.history_replay.specs.Replay.{site}
use Rattle.history_replay.specs.Inner.{LiesIn}
use Rattle.history_replay.proofs.Steps.{save-steps, restore-steps}
use Rattle.history_replay.proofs.inner.replay_call.Goals as goal

pub returns-in_err-save-in-Save-clause-steps : goal.returns-in_err-save-in-Save-clause-steps
returns-in_err-save-in-Save-clause-steps c =
    let a = c.args in
    let v = c.view.ensures in
    let p = err_from_is_err_and c.from_residual.result c.from_residual.ensures.1 in
    rw (p.1, p.2, c.in-Save.is)
    (save-steps a.config (site a.rec.now (tables_of a.tables.now) a.room.now) c.in-Save.part
    (subst (LiesIn (length a.room.now)) c.in-Save.is c.requires) (rw (v.stay, v.moved, v.totals, c.in_err-save-in-Save.was) at c.save.ensures) c.save.auto.out)

pub returns-in_ok-save-in-Save-clause-steps : goal.returns-in_ok-save-in-Save-clause-steps
returns-in_ok-save-in-Save-clause-steps c =
    let a = c.args in
    let v = c.view.ensures in
    rw c.in-Save.is
    (save-steps a.config (site a.rec.now (tables_of a.tables.now) a.room.now) c.in-Save.part
    (subst (LiesIn (length a.room.now)) c.in-Save.is c.requires) (rw (v.stay, v.moved, v.totals, c.in_ok-save-in-Save.was) at c.save.ensures) c.save.auto.out)

pub returns-in-Restore-clause-steps : goal.returns-in-Restore-clause-steps
returns-in-Restore-clause-steps c =
    let a = c.args in
    rw c.in-Restore.is
    (restore-steps a.config (site a.rec.now (tables_of a.tables.now) a.room.now) c.in-Restore.part c.replay_restore.ensures.ends)
