-- `recording::inner::observe_recording` meets its contract. The invariant of its loop is `Observing`: at most `words-index` quotes were invalid, and the quotes
-- from there on give from the memory now what the whole recording gives from the memory at entry (`observing-on`); and the tables are the same slices. The ways
-- out: words that are no multiple of five, a quote stops it (`observing-stop`), the quotes are used up (`observing-end`).
use Rattle.tally.specs.Lent.{tables_of, SameSlices}
use Rattle.calibrator.specs.Record.{memory_with}
use Rattle.recording.proofs.Runs.{Observing}
use Rattle.recording.proofs.inner.observe_recording.Given as goal

abbrev pub invariant-loop-words : goal.invariant-loop-words
invariant-loop-words l =
    let o = l.initial in
    Observing l.config l.recording (memory_with o.rec (tables_of o.tables)) (memory_with l.rec (tables_of l.tables)) l.invalid l.words-index
    × SameSlices o.tables l.tables
