use Rattle.tally.proofs.Lent.{same-again}
use Rattle.history_replay.proofs.Replaying.{replaying-reads, replaying-step, replaying-done}
use Rattle.history_replay.proofs.replay.Goals as goal

pub returns-in_err-call-clause-runs : goal.returns-in_err-call-clause-runs
returns-in_err-call-clause-runs c =
    replaying-reads c.loop-k.invariant.0 c.as_chunks.ensures.front c.call_of.ensures c.loop-k-test.true c.in_err-call.was

pub loop-k-preserved : goal.loop-k-preserved
loop-k-preserved c = (
  replaying-step c.loop-k.invariant.0 c.as_chunks.ensures.front c.call_of.ensures c.loop-k-test.true c.in_ok-call.was
      (rw c.done_number.ensures c.replay_call-done.ensures.steps) c.replay_call-done.auto.room,
  same-again c.loop-k.invariant.1 c.replay_call-done.ensures.same_slices,
)

pub returns-clause-runs : goal.returns-clause-runs
returns-clause-runs c = replaying-done c.loop-k.invariant.0 c.loop-k-test.false
