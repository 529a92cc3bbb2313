-- A calibrator's memory: the record of counters and last quote, and the three tables. Document 01, "New, and one quote".
use Rattle.std.specs.Prelude.{ℕ, List, [], ◌∷◌, ℤ, get_or, Option, Result, Ok, Err}
use Rattle.refusals.specs.Refusals.{Check}
use Rattle.refusals.specs.declared.Refusal.{Refusal}
use Rattle.quotes.specs.declared.Skip.{Skip}
use Rattle.quotes.specs.declared.Skip.TheVariants.{Gap, Spread}
use Rattle.quotes.specs.declared.TopOfBook.{TopOfBook}
use Rattle.tally.specs.Entries.{Tables, tables}
use Rattle.tally.specs.Events.{Counts}
use Rattle.tally.specs.Rules.{Memory}
use Rattle.calibrator.specs.declared.Counters.{Counters}
use Rattle.calibrator.specs.declared.Record.{Record}

-- the kinds of skip: how many, and the number of each
abbrev pub kinds : ℕ
kinds = 2

abbrev pub kind_of : Skip → ℕ
kind_of Spread = 0
kind_of Gap = 1

-- the skips of a kind
abbrev pub skipped : Skip → Counts → ℕ
skipped kind k = get_or k.skips (kind_of kind) 0

-- the counters of skips in the order of the numbers
abbrev pub skips_of : Counters → List ℕ
skips_of k = k.skipped_spread_pairs ∷ k.skipped_gap_pairs ∷ []

-- the counts that a struct of counters and tables hold
abbrev pub counts_of : Counters → Tables → Counts
counts_of k t =
    record { pairs = k.pairs; skips = skips_of k; largest = k.largest_move_half_ticks; tables = t }

-- the last quote, if any
abbrev pub Previous : Type 0
Previous = Option TopOfBook

abbrev pub memory_with : Record → Tables → Memory Previous
memory_with r t = record { last = r.previous; counts = counts_of r.counters t }

-- the same with the tables apart
abbrev pub memory : Record → List ℕ → List ℕ → List ℤ → Memory Previous
memory r s m t = memory_with r (tables s m t)

-- an operation's answer and the memory that it leaves
pub record Outcome (Last : Type 0) : Type 0 where
  pub answer : Check
  pub left : Memory Last

-- what an operation leaves: its answer, and the record and the tables as they are then
abbrev pub leaves : Check → Record → Tables → Outcome Previous
leaves k r t = record { answer = k; left = memory_with r t }

-- what the work on a record by value leaves: the record that it answers, or a refusal and the record as it was given
abbrev pub left_by : Record → Result Record Refusal → Tables → Outcome Previous
left_by before (Ok next) t = leaves (Ok tt) next t
left_by before (Err r) t = leaves (Err r) before t

-- a refusal changes nothing
abbrev pub answered : {Last : Type 0} → Check → Memory Last → Memory Last → Outcome Last
answered (Ok _) before after = record { answer = Ok tt; left = after }
answered (Err r) before after = record { answer = Err r; left = before }
