-- The signal of a quote: document 01, "Model and signal".
use Rattle.std.specs.Prelude.{ℕ, ◌+◌, Bool, cond, not, ◌||◌, ◌&&◌, List, leb, eqb, Float, Result, Ok, Err}
use Rattle.std.specs.Float.Ieee.{le}
use Rattle.std.specs.Float.Ieee.Scale.{finite}
use Rattle.floats.specs.Floats.{pos_zero, abs}
use Rattle.model.specs.Status.{status_number}
use Rattle.model.specs.Rows.{row_at}
use Rattle.model.specs.declared.StateEstimate.{StateEstimate}
use Rattle.model.specs.declared.StateStatus.{StateStatus}
use Rattle.model.specs.declared.StateStatus.TheVariants.{Calibrated, Rare, NoPriceMove, OutsideQuotes}
use Rattle.refusals.specs.Refusals.{first_of, Check}
use Rattle.model_signals.specs.declared.MicroPriceSignal.{MicroPriceSignal}
use Rattle.quotes.specs.declared.At.{At}
use Rattle.quotes.specs.declared.Reason.{Reason}
use Rattle.refusals.specs.declared.Refusal.{Refusal}
use Rattle.refusals.specs.declared.Refusal.TheVariants.{ModelRow}
use Rattle.config.specs.declared.MicroPriceConfig.{MicroPriceConfig}
use Rattle.quotes.specs.Quotes.{check_quote}
use Rattle.quotes.specs.States.{place_of}
use Rattle.quotes.specs.declared.TopOfBook.{TopOfBook}
use Rattle.model_check.specs.Check.{half_spread_of, has_status, check_table}
use Rattle.model_signals.specs.declared.SignalSource.{SignalSource}
use Rattle.model_signals.specs.declared.SignalSource.TheVariants.{MicroPrice, MidFallback, SpreadOutOfRange}

-- the number of each source: MicroPrice 0, MidFallback its status's number, SpreadOutOfRange 4
abbrev pub source_number : SignalSource → ℕ
source_number MicroPrice = 0
source_number (MidFallback s) = status_number s
source_number SpreadOutOfRange = 4

-- the status of a number from 0 to 3
abbrev pub status_of : ℕ → StateStatus
status_of k = cond (eqb k 0) Calibrated (cond (eqb k 1) Rare (cond (eqb k 2) NoPriceMove OutsideQuotes))

-- the source of a row's status
abbrev pub source_of : ℕ → SignalSource
source_of k = cond (eqb k 0) MicroPrice (MidFallback (status_of k))

-- the adjustment is 0 unless Calibrated
abbrev pub adjustment_of : StateEstimate → Float
adjustment_of e = cond (has_status Calibrated e) e.adjustment pos_zero

-- time, bid + ask, adjustment and source
abbrev pub sent : TopOfBook → Float → SignalSource → MicroPriceSignal
sent q a s =
    record { timestamp_ms = q.timestamp_ms; mid_sum = q.bid + q.ask; adjustment = a; source = s }

-- not 13: the status is at most 3, and a Calibrated row's adjustment is finite and in size at most half the spread of its state
unfoldable pub row_serves : MicroPriceConfig → ℕ → StateEstimate → Bool
row_serves c i e =
    leb e.status 3 && (not (has_status Calibrated e) || (finite e.adjustment && le (abs e.adjustment) (half_spread_of c i)))

-- the signal of state i
abbrev pub signal_of_row : MicroPriceConfig → List ℕ → TopOfBook → ℕ → Result MicroPriceSignal Refusal
signal_of_row c model q i =
    cond (row_serves c i (row_at model i)) (Ok (sent q (adjustment_of (row_at model i)) (source_of (row_at model i).status))) (Err (ModelRow i))

-- the signal at a place; a spread over s is not refused
abbrev pub signal_at : MicroPriceConfig → List ℕ → TopOfBook → Result At Reason → Result MicroPriceSignal Refusal
signal_at c model q (Ok a) = signal_of_row c model q a.state
signal_at c model q (Err r) = Ok (sent q pos_zero SpreadOutOfRange)

abbrev pub sent_unless : Check → Result MicroPriceSignal Refusal → Result MicroPriceSignal Refusal
sent_unless (Ok _) s = s
sent_unless (Err r) s = Err r

-- 1, 7, 2, 3, 4
abbrev pub signal_refusal : MicroPriceConfig → List ℕ → TopOfBook → Check
signal_refusal c model q = first_of (check_table c model) (check_quote c q)

-- those, then 13 where the row of the quote's state does not serve
abbrev pub signal_of : MicroPriceConfig → List ℕ → TopOfBook → Result MicroPriceSignal Refusal
signal_of c model q = sent_unless (signal_refusal c model q) (signal_at c model q (place_of c q))
