-- New and one quote: document 01, "New, and one quote".
use Rattle.std.specs.Prelude.{ℕ, ◌*◌, Bool, true, false, not, ◌||◌, ltb, eqb, length, Some, None, Result, Ok, Err}
use Rattle.tally.specs.Totals.{change}
use Rattle.refusals.specs.Refusals.{refuse_if, first_of, Check}
use Rattle.quotes.specs.declared.Pair.{Pair}
use Rattle.quotes.specs.declared.Skip.{Skip}
use Rattle.config.specs.Configuration.{states, check_config}
use Rattle.config.specs.declared.MicroPriceConfig.{MicroPriceConfig}
use Rattle.quotes.specs.Quotes.{check_quote}
use Rattle.quotes.specs.States.{mirror_of}
use Rattle.quotes.specs.Neighbours.{neighbours_of}
use Rattle.quotes.specs.declared.TopOfBook.{TopOfBook}
use Rattle.tally.specs.Entries.{Tables}
use Rattle.tally.specs.Events.{Event, first, skip, pair, zeros}
use Rattle.tally.specs.Limits.{touched}
use Rattle.tally.specs.Rules.{Rule, Memory, step}
use Rattle.calibrator.specs.Record.{kinds, kind_of, Outcome, answered, Previous}

-- ---- document 01's rule of neighbours, for the theory of counts

abbrev pub event_from : Result Pair Skip → Event
event_from (Err k) = skip (kind_of k)
event_from (Ok e) = pair e.from.state e.to.state (change e.mid_from e.mid_to)

abbrev pub event_of : MicroPriceConfig → Previous → TopOfBook → Event
event_of c None q = first
event_of c (Some p) q = event_from (neighbours_of c p q)

abbrev pub is_quoted : Previous → Bool
is_quoted None = false
is_quoted (Some p) = true

-- every accepted quote becomes the last quote
abbrev pub rule : MicroPriceConfig → Rule
rule c =
    record {
      Quote = TopOfBook;
      Last = Previous;
      kinds = kinds;
      states = states c;
      mirror = mirror_of c.imbalance_buckets;
      started = is_quoted;
      arrive = λ l q. Some q;
      event = event_of c;
    }

-- ---- refusals

-- 7: stay and moved have N × N cells, the move totals N
abbrev pub wrong_lengths : ℕ → ℕ → ℕ → ℕ → Bool
wrong_lengths n stay moved totals = not (eqb stay (n * n)) || not (eqb moved (n * n)) || not (eqb totals n)

-- 7: the lent tables do not have the lengths of N states
abbrev pub lent_wrong : ℕ → Tables → Bool
lent_wrong N t = wrong_lengths N (length t.stay) (length t.moved) (length t.totals)

-- 1, 7
abbrev pub check_table_lengths : MicroPriceConfig → ℕ → ℕ → ℕ → Check
check_table_lengths c stay moved totals = first_of (check_config c) (refuse_if (wrong_lengths (states c) stay moved totals) 7)

abbrev pub check_lent : MicroPriceConfig → Tables → Check
check_lent c t = check_table_lengths c (length t.stay) (length t.moved) (length t.totals)

abbrev pub check_memory : MicroPriceConfig → Memory Previous → Check
check_memory c m = check_lent c m.counts.tables

abbrev pub refuses : Check → Bool
refuses (Ok _) = false
refuses (Err r) = true

-- 8: the last quote would meet 2, 3 or 4
abbrev pub broken : MicroPriceConfig → Previous → Bool
broken c None = false
broken c (Some p) = refuses (check_quote c p)

-- 5
abbrev pub earlier : Previous → TopOfBook → Bool
earlier None q = false
earlier (Some p) q = ltb q.timestamp_ms p.timestamp_ms

-- 8, 2, 3, 4, 5
abbrev pub judge_after : MicroPriceConfig → Previous → TopOfBook → Check
judge_after c l q = first_of (refuse_if (broken c l) 8) (first_of (check_quote c q) (refuse_if (earlier l q) 5))

-- 1, 7, 8, 2, 3, 4, 5
abbrev pub judge : MicroPriceConfig → Memory Previous → TopOfBook → Check
judge c m q = first_of (check_memory c m) (judge_after c m.last q)

-- ---- the operations

-- one quote under a rule: what judge refuses, then 6, where what the quote adds to would pass a limit
abbrev pub refusal_by : (R : Rule) → (Memory R.Last → R.Quote → Check) → Memory R.Last → R.Quote → Check
refusal_by R judge m q =
    first_of (judge m q) (refuse_if (touched R.states R.mirror (R.event m.last q) (step R m q).counts) 6)

-- else it is counted
abbrev pub observed_by : (R : Rule) → (Memory R.Last → R.Quote → Check) → Memory R.Last → R.Quote → Outcome R.Last
observed_by R judge m q = answered (refusal_by R judge m q) m (step R m q)

abbrev pub observed : MicroPriceConfig → Memory Previous → TopOfBook → Outcome Previous
observed c m q = observed_by (rule c) (judge c) m q

-- no last quote, zeros
abbrev pub fresh : MicroPriceConfig → Memory Previous
fresh c = record { last = None; counts = zeros kinds (states c) }

-- new: 1, 7
abbrev pub made : MicroPriceConfig → Memory Previous → Outcome Previous
made c m = answered (check_memory c m) m (fresh c)
