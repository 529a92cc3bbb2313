-- What the evening program prints: document 01, "Marked and run".
use Rattle.std.specs.Prelude.{ℕ, ◌+◌, ◌*◌, cond, List, [], ◌∷◌, ◌++◌, ltb, get_or, replicate, Result, Ok, Err}
use Rattle.floats.specs.Floats.{pos_zero}
use Rattle.refusals.specs.Refusals.{number_of}
use Rattle.config.specs.Configuration.{states, config_of}
use Rattle.config.specs.declared.MicroPriceConfig.{MicroPriceConfig}
use Rattle.tally.specs.Events.{Counts}
use Rattle.calibrator.specs.Observe.{fresh}
use Rattle.evening.specs.Evening.{EveningOutcome, calibrated}
use Rattle.recording.specs.declared.Recorded.{Recorded}
use Rattle.refusals.specs.declared.Refusal.{Refusal}
use Rattle.program_text.specs.Text.{newline}
use Rattle.program_text.specs.Reading.{Reading, asked, bad_input, read_text}
use Rattle.program_text.specs.declared.Request.{Request}
use Rattle.program_lines.specs.Lines.{named, counter_lines, fit_lines}

-- ---- words, as bytes

-- "refused "
abbrev pub refused_word : List ℕ
refused_word = 114 ∷ 101 ∷ 102 ∷ 117 ∷ 115 ∷ 101 ∷ 100 ∷ 32 ∷ []

-- "bad input" and a newline
abbrev pub bad_line : List ℕ
bad_line = 98 ∷ 97 ∷ 100 ∷ 32 ∷ 105 ∷ 110 ∷ 112 ∷ 117 ∷ 116 ∷ newline ∷ []

-- ---- lines

-- a refusal before the fit; or the counters, which are given but for the invalid quotes, and the fit
abbrev pub outcome_lines : ℕ → Result Recorded Refusal → (ℕ → List ℕ) → List ℕ → List ℕ
outcome_lines n (Err r) counters model = named refused_word (number_of r)
outcome_lines n (Ok d) counters model = counters d.invalid ++ fit_lines d.answer model n

abbrev pub count_lines : Counts → ℕ → List ℕ
count_lines k = counter_lines k.pairs (get_or k.skips 0 0) (get_or k.skips 1 0) k.largest

abbrev pub outcome_text : ℕ → EveningOutcome → List ℕ
outcome_text n o = outcome_lines n o.answer (count_lines o.left.counts) o.model

-- ---- the program

abbrev pub request_config : Request → MicroPriceConfig
request_config r = config_of (r.tick ∷ r.buckets ∷ r.spread_states ∷ r.least ∷ r.gap ∷ [])

-- the evening of a request on a new calibrator, model table and scratch of zeros
abbrev pub evening_of : Request → List ℕ → EveningOutcome
evening_of r ws =
    let c = request_config r in
    calibrated c (fresh c) ws r.start r.end (replicate (7 * states c) 0) (replicate (states c * (2 * states c + 10)) pos_zero)

abbrev pub printed : Reading → List ℕ
printed bad_input = bad_line
printed (asked r ws) = outcome_text (states (request_config r)) (evening_of r ws)

-- the text out for a text in
unfoldable pub evening_text : List ℕ → List ℕ
evening_text b = printed (read_text b)

-- ---- writing it

-- the most that is printed: five counters in at most 138 bytes, and 27 rows of at most 156
abbrev pub most_bytes : ℕ
most_bytes = 4350

-- the text for an output of so many bytes; one of too few stays as it is
unfoldable pub text_for : ℕ → List ℕ → List ℕ
text_for long b = cond (ltb long most_bytes) [] (evening_text b)
