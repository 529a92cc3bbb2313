-- The fit: document 01, "The fit", and document 02, Q-10.
use Rattle.std.specs.Prelude.{ℕ, zero, suc, ◌+◌, ◌*◌, Bool, not, cond, ◌||◌, List, [], ◌++◌, eqb, length, replicate, Float, Ok, Err}
use Rattle.floats.specs.Floats.{pos_zero}
use Rattle.refusals.specs.Refusals.{refusal, refuse_if, first_of, Check}
use Rattle.config.specs.Configuration.{states, check_config}
use Rattle.config.specs.declared.MicroPriceConfig.{MicroPriceConfig}
use Rattle.quotes.specs.States.{mirror_of, bucket_in, spread_in}
use Rattle.tally.specs.Events.{Counts}
use Rattle.tally.specs.Rules.{Memory}
use Rattle.calibrator.specs.Observe.{check_memory}
use Rattle.calibrator.specs.Record.{Previous}
use Rattle.count_check.specs.Mirrors.{check_mirrored}
use Rattle.model.specs.Rows.{row_words}
use Rattle.model.specs.declared.StateEstimate.{StateEstimate}
use Rattle.fit_rounds.specs.Rounds.{default_series_rounds, default_fallback_rounds, wrong_rounds}
use Rattle.fit_marking.specs.Below.{some_to}
use Rattle.fit_marking.specs.Marks.{cells_of}
use Rattle.fit_system.specs.Rows.{used, total_of}
use Rattle.fit_system.specs.Solution.{Solution, solution, unsolved, solution_of}
use Rattle.fit_estimates.specs.Estimates.{Given, estimate, representable}

-- each state's estimate, or the number of the refusal
pub data Fit : Type 0 where
  fitted : (ℕ → StateEstimate) → Fit
  refused : ℕ → Fit

-- 19: a float of a state not finite or of size 2^96 or more; 16: no Calibrated state remains
unfoldable pub judged_rows : ℕ → (ℕ → StateEstimate) → Fit
judged_rows N rows =
    cond (some_to N (λ i. not (representable (rows i)))) (refused 19)
    (cond (some_to N (λ i. eqb (rows i).status 0)) (fitted rows)
    (refused 16))

-- 17, 18
abbrev pub fit_from : Given → Solution → Fit
fit_from G (unsolved k) = refused k
fit_from G (solution G1 sum share) = judged_rows G.cells.states (estimate G G1 sum share)

-- 16: no Calibrated state; else with at most so many rounds of the series, and so many of the share
unfoldable pub fit_of : ℕ → ℕ → Given → Fit
unfolding solution_of judged_rows
fit_of rounds moves G =
    cond (some_to G.cells.states (used G.cells)) (fit_from G (solution_of rounds moves G.cells G.total))
    (refused 16)

-- ---- the operation

-- what a configuration and its counts give to a fit
abbrev pub given_of : MicroPriceConfig → Counts → Given
given_of c k =
    record {
      cells = cells_of (states c) c.min_state_observations k.tables.stay k.tables.moved;
      total = total_of k.tables.totals;
      tick = c.tick_size;
      mirror = mirror_of c.imbalance_buckets;
      bucket = λ i. bucket_in c.imbalance_buckets i + 1;
      spread = spread_in c.imbalance_buckets;
    }

-- 7: scratch has N × (2 N + 10) floats, the model table 7 N words
abbrev pub wrong_fit_lengths : ℕ → ℕ → ℕ → Bool
wrong_fit_lengths N scratch model = not (eqb scratch (N * (2 * N + 10))) || not (eqb model (7 * N))

-- 1, 7, then 6, 9, 10, 11
abbrev pub fit_refusal : MicroPriceConfig → Memory Previous → ℕ → ℕ → Check
fit_refusal c m scratch model =
    first_of (check_memory c m)
    (first_of (refuse_if (wrong_fit_lengths (states c) scratch model) 7)
    (check_mirrored c m.counts))

-- 1, 26, then as `fit_refusal`, whose own 1 is not reached
abbrev pub fit_refusal_with : ℕ → ℕ → MicroPriceConfig → Memory Previous → ℕ → ℕ → Check
fit_refusal_with rounds moves c m scratch model =
    first_of (check_config c)
    (first_of (refuse_if (wrong_rounds rounds moves) 26)
    (fit_refusal c m scratch model))

-- the rows of N states, one after another
abbrev pub table_of : ℕ → (ℕ → StateEstimate) → List ℕ
table_of zero rows = []
table_of (suc i) rows = table_of i rows ++ row_words (rows i)

-- the answer, and what stands in the model table and in scratch
pub record FitOutcome : Type 0 where
  pub answer : Check
  pub model : List ℕ
  pub scratch : List Float

abbrev pub end_fit : Check → List ℕ → List Float → FitOutcome
end_fit answer model scratch = record { answer = answer; model = model; scratch = scratch }

-- the table is written only on success
abbrev pub fit_answer : Fit → Check
fit_answer (fitted rows) = Ok tt
fit_answer (refused k) = refusal k

abbrev pub model_after : ℕ → Fit → List ℕ → List ℕ
model_after N (fitted rows) model = table_of N rows
model_after N (refused k) model = model

-- what is refused before the fit changes nothing; else scratch is all plus zero
abbrev pub fit_unless : Check → ℕ → Fit → List ℕ → List Float → FitOutcome
fit_unless (Ok _) N f model scratch = end_fit (fit_answer f) (model_after N f model) (replicate (length scratch) pos_zero)
fit_unless (Err r) N f model scratch = end_fit (Err r) model scratch

-- with at most so many rounds of the series, and so many of the share
abbrev pub fitted_with : ℕ → ℕ → MicroPriceConfig → Memory Previous → List ℕ → List Float → FitOutcome
fitted_with rounds moves c m model scratch =
    fit_unless (fit_refusal_with rounds moves c m (length scratch) (length model)) (states c) (fit_of rounds moves (given_of c m.counts)) model scratch

-- at the default rounds
abbrev pub fit_counts : MicroPriceConfig → Memory Previous → List ℕ → List Float → FitOutcome
fit_counts c m model scratch = fitted_with default_series_rounds default_fallback_rounds c m model scratch
