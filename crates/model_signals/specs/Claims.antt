-- What the theorems of proofs/ say of signals.
use Rattle.std.specs.Prelude.{ℕ, ◌-◌, ◌*◌, ◌≤◌, ◌<◌, ◌≡◌, false, Float, Result, Ok, Err}
use Rattle.std.specs.Float.{binary64}
use Rattle.std.specs.Float.Ieee.{add}
use Rattle.std.specs.Float.Ieee.Exact.{HasValue}
use Rattle.floats.specs.Floats.{pos_zero, abs}
use Rattle.model.specs.declared.StateEstimate.{StateEstimate}
use Rattle.refusals.specs.Refusals.{number_of}
use Rattle.quotes.specs.declared.TopOfBook.{TopOfBook}
use Rattle.model_signals.specs.declared.MicroPriceSignal.{MicroPriceSignal}
use Rattle.refusals.specs.declared.Refusal.{Refusal}

-- the size of an adjustment is exactly the fraction num / den, and twice that is at most ask − bid
pub record Within (q : TopOfBook) (a : Float) : Type 0 where
  pub num : ℕ
  pub den : ℕ
  pub den-some : 0 < den
  pub size : HasValue (abs a) false num den
  pub inside : 2 * num ≤ (q.ask - q.bid) * den

-- two rows mirror each other: the same status, and adjustments whose binary64 sum is plus zero
pub record RowsMirror (e mirror : StateEstimate) : Type 0 where
  pub status-same : e.status ≡ mirror.status
  pub sum-zero : add binary64 e.adjustment mirror.adjustment ≡ pos_zero

-- so do two signals: the same time, mid and source, and adjustments whose binary64 sum is plus zero
pub record SignalsMirror (a b : MicroPriceSignal) : Type 0 where
  pub time-same : a.timestamp_ms ≡ b.timestamp_ms
  pub mid-same : a.mid_sum ≡ b.mid_sum
  pub source-same : a.source ≡ b.source
  pub sum-zero : add binary64 a.adjustment b.adjustment ≡ pos_zero

-- and two answers: such signals, or refusals of the same number
abbrev pub AnswersMirror : Result MicroPriceSignal Refusal → Result MicroPriceSignal Refusal → Type 0
AnswersMirror (Ok a) (Ok b) = SignalsMirror a b
AnswersMirror (Ok a) (Err s) = ⊥
AnswersMirror (Err r) (Ok b) = ⊥
AnswersMirror (Err r) (Err s) = number_of r ≡ number_of s
