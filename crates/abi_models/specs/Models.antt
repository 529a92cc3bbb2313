-- What the exported model check and signal answer and leave in the memory that they are lent. Words that are not encoded are answered with bad_encoding and
-- change nothing; else it is the operation's own definition, in numbers.
use Rattle.std.specs.Prelude.{ℕ, cond, ◌&&◌, List, [], ◌∷◌, eqb, length, Result, Ok, Err}
use Rattle.floats.specs.Floats.{bits_of}
use Rattle.refusals.specs.Refusals.{number_of, row_or, Check}
use Rattle.refusals.specs.declared.Refusal.{Refusal}
use Rattle.quotes.specs.declared.TopOfBook.{TopOfBook}
use Rattle.config.specs.Configuration.{is_config, config_of}
use Rattle.abi_encoding.specs.Encoding.{bad_encoding}
use Rattle.model_check.specs.Check.{check_model}
use Rattle.model_signals.specs.Signal.{source_number, signal_of}
use Rattle.model_signals.specs.declared.MicroPriceSignal.{MicroPriceSignal}

-- ---- the model check: document 01, "Model and signal"

-- an answer, and the word for a row, which is written at 13 and only then
pub record LentRow : Type 0 where
  pub answer : ℕ
  pub row : ℕ

abbrev pub lent_row : ℕ → ℕ → LentRow
lent_row answer row = record { answer = answer; row = row }

abbrev pub of_check : Check → ℕ → LentRow
of_check (Ok _) row = lent_row 0 row
of_check (Err r) row = lent_row (number_of r) (row_or r row)

abbrev pub check_model_words : List ℕ → List ℕ → ℕ → LentRow
check_model_words c model row = cond (is_config c) (of_check (check_model (config_of c) model) row) (lent_row bad_encoding row)

-- ---- the signal: document 01, "Model and signal"

-- an answer, the words of a signal, and the word for a row
pub record LentSignal : Type 0 where
  pub answer : ℕ
  pub out : List ℕ
  pub row : ℕ

abbrev pub lent_signal : ℕ → List ℕ → ℕ → LentSignal
lent_signal answer out row = record { answer = answer; out = out; row = row }

-- how many words
abbrev pub signal_length : ℕ
signal_length = 4

-- time, bid + ask, the bits of the adjustment, the source's number
abbrev pub sent_words : MicroPriceSignal → List ℕ
sent_words s = s.timestamp_ms ∷ s.mid_sum ∷ bits_of s.adjustment ∷ source_number s.source ∷ []

-- a refusal leaves the words
abbrev pub of_signalled : Result MicroPriceSignal Refusal → List ℕ → ℕ → LentSignal
of_signalled (Ok s) out row = lent_signal 0 (sent_words s) row
of_signalled (Err r) out row = lent_signal (number_of r) out (row_or r row)

abbrev pub signal_words : List ℕ → List ℕ → TopOfBook → List ℕ → ℕ → LentSignal
signal_words c model q out row =
    cond (is_config c && eqb (length out) signal_length) (of_signalled (signal_of (config_of c) model q) out row)
    (lent_signal bad_encoding out row)
