-- `history_replay::replay` meets its contract. A badly coded list changes nothing. Invariant of the loop: lengths are kept, and `Replaying`: the answers so
-- far, then the numbers of the calls from k on, are those of all calls, and the calls from k on end where all end. So call k is read (`replaying-reads`); the
-- invariant is kept (`replaying-step`), and at the end it is the replay (`replaying-done`).
use Rattle.tally.specs.Lent.{tables_of, SameSlices}
use Rattle.history_replay.specs.Replay.{site}
use Rattle.history_replay.proofs.Replaying.{Replaying}
use Rattle.history_replay.proofs.replay.Given as goal

abbrev pub invariant-loop-k : goal.invariant-loop-k
invariant-loop-k l =
    let o = l.initial in
    Replaying l.config l.fn.calls (site o.rec (tables_of o.tables) o.room) o.answers l.k (site l.rec (tables_of l.tables) l.room) l.answers
    × SameSlices o.tables l.tables
