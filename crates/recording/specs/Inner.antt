-- For the contracts and proofs of inner functions alone: a recording counted, of any length.
use Rattle.std.specs.Prelude.{ℕ, cond, List}
use Rattle.refusals.specs.Refusals.{refusal}
use Rattle.config.specs.declared.MicroPriceConfig.{MicroPriceConfig}
use Rattle.tally.specs.Rules.{Memory}
use Rattle.calibrator.specs.Record.{Previous}
use Rattle.recording.specs.Recording.{quotes_of, uneven}
use Rattle.recording.specs.Observe.{RecordedOutcome, recorded_as, recorded}

-- 7 first, for a recording that is not a multiple of five words
abbrev pub recorded_of : MicroPriceConfig → List ℕ → Memory Previous → RecordedOutcome Previous
recorded_of c w m = cond (uneven w) (recorded_as (refusal 7) 0 m) (recorded c (quotes_of w) 0 m)
