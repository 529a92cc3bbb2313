-- An evening's calibration: document 01, "An evening's calibration".
use Rattle.std.specs.Prelude.{ℕ, List, length, Float, Result, Ok, Err}
use Rattle.refusals.specs.Refusals.{refuse_if, first_of, Check}
use Rattle.refusals.specs.declared.Refusal.{Refusal}
use Rattle.config.specs.Configuration.{states}
use Rattle.config.specs.declared.MicroPriceConfig.{MicroPriceConfig}
use Rattle.tally.specs.Rules.{Memory}
use Rattle.calibrator.specs.Observe.{check_table_lengths, fresh}
use Rattle.calibrator.specs.Record.{Previous}
use Rattle.recording.specs.Recording.{quotes_of, filter}
use Rattle.recording.specs.Window.{inside, check_window}
use Rattle.recording.specs.Observe.{RecordedOutcome, recorded}
use Rattle.recording.specs.declared.Recorded.{Recorded}
use Rattle.fit.specs.Fit.{wrong_fit_lengths, FitOutcome, fit_counts}

-- the answer, and what stands in the record and tables, in the model table and in scratch
pub record EveningOutcome : Type 0 where
  pub answer : Result Recorded Refusal
  pub left : Memory Previous
  pub model : List ℕ
  pub scratch : List Float

abbrev pub end_evening : Result Recorded Refusal → Memory Previous → List ℕ → List Float → EveningOutcome
end_evening answer left model scratch = record { answer = answer; left = left; model = model; scratch = scratch }

-- 7, 14, 15, 1, 7 (other slices)
abbrev pub check_lengths : MicroPriceConfig → List ℕ → ℕ → ℕ → ℕ → ℕ → ℕ → ℕ → ℕ → Check
check_lengths c w start end stay moved totals scratch model =
    first_of (check_window w start end)
    (first_of (check_table_lengths c stay moved totals) (refuse_if (wrong_fit_lengths (states c) scratch model) 7))

abbrev pub evening_refusal : MicroPriceConfig → Memory Previous → List ℕ → ℕ → ℕ → ℕ → ℕ → Check
evening_refusal c m w start end scratch model =
    check_lengths c w start end (length m.counts.tables.stay) (length m.counts.tables.moved) (length m.counts.tables.totals) scratch model

-- a fit's answer with the number of invalid quotes; the counts stay
abbrev pub evening_fitted : ℕ → Memory Previous → FitOutcome → EveningOutcome
evening_fitted invalid left f =
    end_evening (Ok (record { answer = f.answer; invalid = invalid })) left f.model f.scratch

-- a quote that stops the count leaves tables and counters zero and no last quote; else the counts are fitted
abbrev pub counted_by : MicroPriceConfig → Check → ℕ → Memory Previous → List ℕ → List Float → EveningOutcome
counted_by c (Ok _) invalid left model scratch = evening_fitted invalid left (fit_counts c left model scratch)
counted_by c (Err r) invalid left model scratch = end_evening (Err r) (fresh c) model scratch

abbrev pub counted : MicroPriceConfig → RecordedOutcome Previous → List ℕ → List Float → EveningOutcome
counted c d model scratch = counted_by c d.answer d.invalid d.left model scratch

abbrev pub evening_unless : Check → Memory Previous → List ℕ → List Float → EveningOutcome → EveningOutcome
evening_unless (Ok _) m model scratch done = done
evening_unless (Err r) m model scratch done = end_evening (Err r) m model scratch

-- the window's quotes given to a new calibrator, then the fit
abbrev pub calibrated : MicroPriceConfig → Memory Previous → List ℕ → ℕ → ℕ → List ℕ → List Float → EveningOutcome
calibrated c m w start end model scratch =
    evening_unless (evening_refusal c m w start end (length scratch) (length model)) m model scratch
    (counted c (recorded c (filter (inside start end) (quotes_of w)) 0 (fresh c)) model scratch)
