-- A recording counted into a calibrator: document 01, "An evening's calibration".
use Rattle.std.specs.Prelude.{ℕ, ◌+◌, Bool, false, not, cond, ◌&&◌, ◌||◌, List, [], ◌∷◌, eqb, Ok, Err}
use Rattle.basics.specs.Lists.{bit}
use Rattle.refusals.specs.Refusals.{number_of, Check}
use Rattle.config.specs.declared.MicroPriceConfig.{MicroPriceConfig}
use Rattle.quotes.specs.Quotes.{check_quote}
use Rattle.quotes.specs.declared.TopOfBook.{TopOfBook}
use Rattle.tally.specs.Rules.{Memory}
use Rattle.calibrator.specs.Record.{Outcome, Previous}
use Rattle.calibrator.specs.Observe.{refuses, observed}

-- 3 and 4, counted as invalid quotes
abbrev pub is_invalid : Check → Bool
is_invalid (Ok _) = false
is_invalid (Err r) = eqb (number_of r) 3 || eqb (number_of r) 4

-- any other refusal
abbrev pub is_stop : Check → Bool
is_stop k = refuses k && not (is_invalid k)

-- the answer, the number of invalid quotes and the memory left
pub record RecordedOutcome (Last : Type 0) : Type 0 where
  pub answer : Check
  pub invalid : ℕ
  pub left : Memory Last

abbrev pub recorded_as : {Last : Type 0} → Check → ℕ → Memory Last → RecordedOutcome Last
recorded_as a k m = record { answer = a; invalid = k; left = m }

-- each quote is given to an operation, in order, with k invalid ones before; one that stops it is the answer
abbrev pub recorded_by : {Last Quote : Type 0} → (Memory Last → Quote → Outcome Last) → List Quote → ℕ → Memory Last → RecordedOutcome Last
recorded_by f [] k m = recorded_as (Ok tt) k m
recorded_by f (q ∷ qs) k m =
    cond (is_stop (f m q).answer) (recorded_as (f m q).answer k (f m q).left)
    (recorded_by f qs (k + bit (is_invalid (f m q).answer)) (f m q).left)

-- the calibrator's quotes
abbrev pub recorded : MicroPriceConfig → List TopOfBook → ℕ → Memory Previous → RecordedOutcome Previous
recorded c qs k m = recorded_by (observed c) qs k m

-- a quote that 3 or 4 refuses, and one that they do not
abbrev pub unusable : MicroPriceConfig → TopOfBook → Bool
unusable c q = is_invalid (check_quote c q)

abbrev pub usable : MicroPriceConfig → TopOfBook → Bool
usable c q = not (unusable c q)
