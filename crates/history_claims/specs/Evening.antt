-- An evening's counts are its history's: document 01, "An evening's calibration" and "The history".
use Rattle.std.specs.Prelude.{ℕ, ◌≤◌, ◌≡◌, Bool, true, List, [], ◌∷◌, ◌++◌, map, eqb, Float, Ok, Err}
use Rattle.basics.specs.Lists.{any, count}
use Rattle.refusals.specs.Refusals.{number_of}
use Rattle.refusals.specs.declared.Refusal.{Refusal}
use Rattle.config.specs.declared.MicroPriceConfig.{MicroPriceConfig}
use Rattle.quotes.specs.declared.TopOfBook.{TopOfBook}
use Rattle.tally.specs.Limits.{over_limit}
use Rattle.tally.specs.Rules.{Memory}
use Rattle.calibrator.specs.Observe.{fresh}
use Rattle.calibrator.specs.Record.{Previous}
use Rattle.recording.specs.Recording.{quotes_of, filter}
use Rattle.recording.specs.Window.{inside}
use Rattle.recording.specs.Observe.{unusable, usable}
use Rattle.recording.specs.declared.Recorded.{Recorded}
use Rattle.history.specs.Calls.{Call, quote, History, gains, history_memory, history_refusal}
use Rattle.history.specs.Demand.{left, history_of}
use Rattle.fit.specs.Fit.{end_fit, fit_counts}
use Rattle.evening.specs.Evening.{EveningOutcome, end_evening}
use Rattle.history_claims.specs.Models.{Model, Demand3Whole}

-- the recording's quotes inside the window
abbrev pub window_quotes : List ℕ → ℕ → ℕ → List TopOfBook
window_quotes w start end = filter (inside start end) (quotes_of w)

-- each given to the calibrator
abbrev pub calls_of : List TopOfBook → List Call
calls_of qs = map quote qs

-- the quotes that 3 and 4 do not refuse, from new on
abbrev pub accepted_of : MicroPriceConfig → List TopOfBook → History
accepted_of c qs = record { start = (fresh c).counts; quotes = filter (usable c) qs }

-- its number is one of these
abbrev pub one_of : List ℕ → Refusal → Bool
one_of ks r = any (eqb (number_of r)) ks

-- an evening with the quotes qs in its window, the model table t and scratch l, that ends in o and answers d: a fit's answer and the number of invalid quotes
pub record FittedEvening (c : MicroPriceConfig) (qs : List TopOfBook) (t : List ℕ) (l : List Float) (o : EveningOutcome) (d : Recorded) : Type 0 where
  -- the history of the calls has the quotes that 3 and 4 do not refuse, all of them and in their order, and starts at new's zeros
  pub history-is : history_of c (calls_of qs) ≡ accepted_of c qs
  -- the record and tables are the history's, which are those that the calls leave
  pub memory-is : o.left ≡ history_memory c (history_of c (calls_of qs))
  pub left_is : o.left ≡ left c (calls_of qs)
  -- demand 3 of those calls, whole
  pub demand : Demand3Whole c (calls_of qs)
  -- the invalid quotes are the others
  pub invalid-are : d.invalid ≡ count (unusable c) qs
  -- the answer, the model table and scratch are those of a fit of the history
  pub fit_is : end_fit d.answer o.model o.scratch ≡ fit_counts c (history_memory c (history_of c (calls_of qs))) t l
  -- a refusal of that fit is one of 16 to 19; where nothing is refused the table is a model
  pub fit-numbers : (r : Refusal) → d.answer ≡ Err r → (16 ≤ number_of r) × (number_of r ≤ 19)
  pub model : d.answer ≡ Ok tt → Model c o.model

-- a quote of qs that the history of those before it refuses by r, where no quote before it is refused but by 3 and 4
pub record StoppedAt (c : MicroPriceConfig) (qs : List TopOfBook) (r : Refusal) : Type 0 where
  pub earlier : List TopOfBook
  pub here : TopOfBook
  pub later : List TopOfBook
  pub quotes-are : qs ≡ earlier ++ here ∷ later
  pub history-is : history_of c (calls_of earlier) ≡ accepted_of c earlier
  pub refused : history_refusal c (accepted_of c earlier) here ≡ Err r
  -- 6: with it the history passes a limit
  pub limit-passed : number_of r ≡ 6 → over_limit (history_memory c (gains (accepted_of c earlier) here)).counts ≡ true

-- such an evening, with m in the record and tables before it, that ends in o and is refused by r before the fit
pub record RefusedEvening (c : MicroPriceConfig) (m : Memory Previous) (qs : List TopOfBook) (t : List ℕ) (l : List Float) (o : EveningOutcome)
    (r : Refusal) : Type 0 where
  pub number : one_of (7 ∷ 14 ∷ 15 ∷ 1 ∷ 2 ∷ 6 ∷ []) r ≡ true
  -- 7, 14, 15, 1: no lent memory is changed
  pub unchanged : one_of (7 ∷ 14 ∷ 15 ∷ 1 ∷ []) r ≡ true → o ≡ end_evening (Err r) m t l
  -- 2, 6: at a quote, with count tables and counters zero and no last quote, and the other slices unchanged
  pub stopped : one_of (2 ∷ 6 ∷ []) r ≡ true → (o ≡ end_evening (Err r) (fresh c) t l) × StoppedAt c qs r

-- an evening that ends in o
pub record EveningHistory (c : MicroPriceConfig) (m : Memory Previous) (qs : List TopOfBook) (t : List ℕ) (l : List Float) (o : EveningOutcome) : Type 0 where
  pub fitted : (d : Recorded) → o.answer ≡ Ok d → FittedEvening c qs t l o d
  pub refused : (r : Refusal) → o.answer ≡ Err r → RefusedEvening c m qs t l o r
