-- `history_replay::inner::check_encoding` meets its contract: six words for each answer, each six a call. Invariant: all calls are calls exactly if those from
-- k on are. A word that reads as no call ends it.
use Rattle.std.proofs.Common.{◌≡◌, ◌-◌}
use Rattle.basics.specs.Lists.{all_from}
use Rattle.history_replay.specs.Replay.{is_call}
use Rattle.history_replay.proofs.inner.check_encoding.Given as goal

abbrev pub invariant-loop-words : goal.invariant-loop-words
invariant-loop-words l =
    all_from (is_call l.room l.fn.calls) 0 l.answers ≡ all_from (is_call l.room l.fn.calls) l.words-index (l.answers - l.words-index)
