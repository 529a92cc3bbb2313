use mathlib.Core.Path.{◌∙◌}
use native.Mathlib.Omega.{arith}
use Rattle.std.proofs.lemmas.Result.{err_from_is_err_and}
use Rattle.count_check.proofs.Walks.{all-step}
use Rattle.history_replay.specs.Replay.{is_call}
use Rattle.history_replay.proofs.Chunks.{read-chunk}
use Rattle.history_replay.proofs.Decoding.{read-ok, read-err, coding-bad}
use Rattle.history_replay.proofs.inner.check_encoding.Goals as goal

pub returns-in_err-call_of : goal.returns-in_err-call_of
returns-in_err-call_of c =
    let a = c.args in
    let k = c.loop-words.words-index in
    let f = c.as_chunks.ensures in
    let read = read-chunk a.room k a.calls.now f.front (omega arith) c.call_of.ensures in
    let p = err_from_is_err_and c.from_residual.result c.from_residual.ensures.1 in
    rw p.1
    (coding-bad a.room a.answers a.calls.now k p.0 (omega arith) (read-err a.room a.calls.now k read c.in_err-call_of.was))

pub loop-words-preserved : goal.loop-words-preserved
loop-words-preserved c =
    let a = c.args in
    let k = c.loop-words.words-index in
    let f = c.as_chunks.ensures in
    let read = read-chunk a.room k a.calls.now f.front (omega arith) c.call_of.ensures in
    c.loop-words.invariant
    ∙ all-step (is_call a.room a.calls.now) k a.answers (omega arith) (read-ok a.room a.calls.now k read c.in_ok-call_of.was).0
