-- What a fitted model is, and demand 3 with its last sentence: document 00, demand 3, document 01, "The history", "The fit" and "Model and signal", and
-- document 02, Q-10.
use Rattle.std.specs.Prelude.{ℕ, ◌<◌, ◌≤◌, ◌≡◌, Bool, true, false, List, ◌⊎◌, Float, Ok, Err}
use Rattle.std.specs.Float.Ieee.{eq}
use Rattle.floats.specs.Floats.{pos_zero}
use Rattle.refusals.specs.Refusals.{number_of, refuse_if, first_of}
use Rattle.refusals.specs.declared.Refusal.{Refusal}
use Rattle.refusals.specs.declared.Refusal.TheVariants.{ModelRow}
use Rattle.config.specs.Configuration.{states}
use Rattle.config.specs.declared.MicroPriceConfig.{MicroPriceConfig}
use Rattle.quotes.specs.Quotes.{exchanged}
use Rattle.quotes.specs.States.{mirror_of}
use Rattle.quotes.specs.declared.TopOfBook.{TopOfBook}
use Rattle.history.specs.Calls.{Call}
use Rattle.history.specs.Demand.{left, Demand3, Demand3New}
use Rattle.model.specs.Rows.{row_at}
use Rattle.fit_rounds.specs.Rounds.{wrong_rounds}
use Rattle.fit.specs.Fit.{wrong_fit_lengths, fit_refusal_with, fitted_with}
use Rattle.fit.specs.Models.{RowsOpposite, Inside}
use Rattle.model_check.specs.Check.{check_model}
use Rattle.model_signals.specs.Claims.{Within, AnswersMirror}
use Rattle.model_signals.specs.Signal.{signal_of}
use Rattle.model_signals.specs.declared.MicroPriceSignal.{MicroPriceSignal}

pub record Model (c : MicroPriceConfig) (t : List ℕ) : Type 0 where
  -- mirrored states have equal status and observations, and adjustments that sum to zero, first and final
  pub mirrored : (i : ℕ) → i < states c → RowsOpposite (row_at t i) (row_at t (mirror_of c.imbalance_buckets i))
  -- a Calibrated state's adjustment is in size at most half its spread
  pub inside : (i : ℕ) → i < states c → (row_at t i).status ≡ 0 → Inside c i (row_at t i).adjustment
  -- no quote's signal is refused by 13
  pub served : (q : TopOfBook) (i : ℕ) → signal_of c t q ≡ Err (ModelRow i) → ⊥
  -- the signals of a quote and of the same with its sizes exchanged mirror
  pub signals-mirror : (q : TopOfBook) → AnswersMirror (signal_of c t q) (signal_of c t (exchanged q))
  -- the model check accepts it, if the adjustment of each Rare and NoPriceMove row is zero: document 01 makes no claim that it is
  pub checked : ((i : ℕ) → i < states c → ((row_at t i).status ≡ 1) ⊎ ((row_at t i).status ≡ 2) → eq (row_at t i).adjustment pos_zero ≡ true)
      → check_model c t ≡ Ok tt

-- the number of a refused fit after a list: 26 exactly if its rounds are outside of their ranges, else 7, or one of 16 to 19
abbrev pub FitNumber : Bool → ℕ → Type 0
FitNumber true k = k ≡ 26
FitNumber false k = (k ≡ 7) ⊎ ((16 ≤ k) × (k ≤ 19))

-- demand 3 whole, of one configuration and one list of calls; what it says of fits is of every two numbers of rounds, of the series and of the share
pub record Demand3Whole (c : MicroPriceConfig) (ks : List Call) : Type 0 where
  pub history : Demand3 c ks
  -- its start is new's zeros
  pub from-new : Demand3New c ks
  -- before 16 a fit after the list is refused for its rounds, then for the lengths of scratch and model table, and for nothing else
  pub fit_refused : (rounds moves scratch model : ℕ)
      → fit_refusal_with rounds moves c (left c ks) scratch model
      ≡ first_of (refuse_if (wrong_rounds rounds moves) 26) (refuse_if (wrong_fit_lengths (states c) scratch model) 7)
  pub fit-numbers : (rounds moves : ℕ) (t : List ℕ) (l : List Float) (r : Refusal) → (fitted_with rounds moves c (left c ks) t l).answer ≡ Err r
      → FitNumber (wrong_rounds rounds moves) (number_of r)
  pub model : (rounds moves : ℕ) (t : List ℕ) (l : List Float) → (fitted_with rounds moves c (left c ks) t l).answer ≡ Ok tt
      → Model c (fitted_with rounds moves c (left c ks) t l).model
  -- of any quote and any table
  pub signal-inside : (t : List ℕ) (q : TopOfBook) (s : MicroPriceSignal) → signal_of c t q ≡ Ok s → Within q s.adjustment
