-- What the exported fit and window answer and leave in the memory that they are lent. Words that are not encoded are answered with bad_encoding and change
-- nothing; else it is the operation's own definition, in numbers.
use Rattle.std.specs.Prelude.{ℕ, cond, List, Float, ℤ, Result, Ok, Err}
use Rattle.refusals.specs.Refusals.{number_of, check_number}
use Rattle.calibrator.specs.Record.{memory}
use Rattle.config.specs.Configuration.{config_of}
use Rattle.abi_encoding.specs.Encoding.{record_of, encoded, bad_encoding}
use Rattle.recording.specs.Window.{window_of}
use Rattle.recording.specs.declared.Ends.{Ends}
use Rattle.refusals.specs.declared.Refusal.{Refusal}
use Rattle.fit_rounds.specs.Rounds.{default_series_rounds, default_fallback_rounds}
use Rattle.fit.specs.Fit.{FitOutcome, fitted_with}

-- ---- the fit: document 01, "The fit", and document 02, Q-10

-- an answer, the model table and scratch
pub record LentFit : Type 0 where
  pub answer : ℕ
  pub model : List ℕ
  pub scratch : List Float

abbrev pub lent_fit : ℕ → List ℕ → List Float → LentFit
lent_fit answer model scratch = record { answer = answer; model = model; scratch = scratch }

abbrev pub of_fit : FitOutcome → LentFit
of_fit f = lent_fit (check_number f.answer) f.model f.scratch

-- with at most so many rounds of the series, and so many of the share
abbrev pub fit_with_words : ℕ → ℕ → List ℕ → List ℕ → List ℕ → List ℕ → List ℤ → List ℕ → List Float → LentFit
fit_with_words rounds moves c w s m t model scratch =
    cond (encoded c w) (of_fit (fitted_with rounds moves (config_of c) (memory (record_of w) s m t) model scratch))
    (lent_fit bad_encoding model scratch)

-- at the defaults, as `fit_counts`
abbrev pub fit_words : List ℕ → List ℕ → List ℕ → List ℕ → List ℤ → List ℕ → List Float → LentFit
fit_words c w s m t model scratch = fit_with_words default_series_rounds default_fallback_rounds c w s m t model scratch

-- ---- the window: document 01, "The window"

-- an answer, and the words for the first quote of the part and the one past its last
pub record LentEnds : Type 0 where
  pub answer : ℕ
  pub first : ℕ
  pub past : ℕ

abbrev pub lent_ends : ℕ → ℕ → ℕ → LentEnds
lent_ends answer first past = record { answer = answer; first = first; past = past }

-- a refusal leaves both
abbrev pub of_window : Result Ends Refusal → ℕ → ℕ → LentEnds
of_window (Ok e) first past = lent_ends 0 e.first e.past
of_window (Err r) first past = lent_ends (number_of r) first past

abbrev pub window_words : List ℕ → ℕ → ℕ → ℕ → ℕ → LentEnds
window_words w start end first past = of_window (window_of w start end) first past
