-- The words by which the exported operations lend a configuration and a record.
use Rattle.std.specs.Prelude.{ℕ, Bool, cond, ◌&&◌, List, [], ◌∷◌, ◌++◌, eqb, ℤ, length, get_or, Some, None, Ok, Err}
use Rattle.basics.specs.Lists.{same_words}
use Rattle.refusals.specs.Refusals.{Check}
use Rattle.config.specs.Configuration.{is_config}
use Rattle.quotes.specs.declared.Skip.TheVariants.{Gap, Spread}
use Rattle.quotes.specs.declared.TopOfBook.{TopOfBook}
use Rattle.tally.specs.Events.{Counts}
use Rattle.tally.specs.Rules.{Memory}
use Rattle.calibrator.specs.Record.{skipped, memory, Previous}
use Rattle.calibrator.specs.declared.Counters.{Counters}
use Rattle.calibrator.specs.declared.Record.{Record}
use Rattle.image_layout.specs.Layout.{previous_words}

-- ---- a record

-- how many words
abbrev pub record_length : ℕ
record_length = 10

-- 1 if a last quote follows else 0, its five words (else zeros), pairs, spread skips, gap skips, largest change
abbrev pub record_words : Previous → Counts → List ℕ
record_words l k = previous_words l ++ (k.pairs ∷ skipped Spread k ∷ skipped Gap k ∷ k.largest ∷ [])

-- those of a memory
abbrev pub record_words_of : Memory Previous → List ℕ
record_words_of m = record_words m.last m.counts

abbrev pub quote_of : List ℕ → TopOfBook
quote_of w =
    record { timestamp_ms = get_or w 1 0; bid = get_or w 2 0; ask = get_or w 3 0; bid_size = get_or w 4 0; ask_size = get_or w 5 0 }

abbrev pub previous_of : List ℕ → Previous
previous_of w = cond (eqb (get_or w 0 0) 1) (Some (quote_of w)) None

abbrev pub counters_of : List ℕ → Counters
counters_of w =
    record {
      pairs = get_or w 6 0;
      skipped_spread_pairs = get_or w 7 0;
      skipped_gap_pairs = get_or w 8 0;
      largest_move_half_ticks = get_or w 9 0;
    }

abbrev pub record_of : List ℕ → Record
record_of w = record { previous = previous_of w; counters = counters_of w }

-- the words are those of the record that they hold
abbrev pub is_record : List ℕ → Bool
is_record w = same_words w (record_words_of (memory (record_of w) [] [] []))

-- whatever they hold, as many words as a configuration and a record have
abbrev pub right_words : List ℕ → List ℕ → Bool
right_words c w = is_config c && eqb (length w) record_length

-- a configuration and a record
abbrev pub encoded : List ℕ → List ℕ → Bool
encoded c w = is_config c && is_record w

-- the answer to other words: none of the documents' numbers
abbrev pub bad_encoding : ℕ
bad_encoding = 100

-- ---- a quote

-- a quote by its time, bid, ask, bid size and ask size
abbrev pub top_of_book : ℕ → ℕ → ℕ → ℕ → ℕ → TopOfBook
top_of_book time bid ask bid-size ask-size =
    record { timestamp_ms = time; bid = bid; ask = ask; bid_size = bid-size; ask_size = ask-size }

-- ---- what an operation on counts leaves

-- an answer, the record's words and the three tables
pub record Lent : Type 0 where
  pub answer : ℕ
  pub rec : List ℕ
  pub stay : List ℕ
  pub moved : List ℕ
  pub totals : List ℤ

abbrev pub lent : ℕ → List ℕ → List ℕ → List ℕ → List ℤ → Lent
lent answer rec stay moved totals =
    record { answer = answer; rec = rec; stay = stay; moved = moved; totals = totals }

-- an answer, the record's words, and the tables of a memory
abbrev pub lent_as : ℕ → List ℕ → Memory Previous → Lent
lent_as answer w m =
    lent answer w m.counts.tables.stay m.counts.tables.moved m.counts.tables.totals

-- the record's words after an operation that was lent the words w and leaves m: refused, as they came; else those of m
abbrev pub words_unless : Check → List ℕ → Memory Previous → List ℕ
words_unless (Ok _) w m = record_words_of m
words_unless (Err r) w m = w
