-- The words and bytes of an image, written and read: document 01, "The image".
use Rattle.std.specs.Prelude.{ℕ, ◌+◌, ◌*◌, ◌-◌, ◌/◌, Bool, cond, ◌&&◌, List, [], ◌∷◌, ◌++◌, map, eqb, length, drop, replicate, Some, None}
use Rattle.basics.specs.Lists.{same_words}
use Rattle.image_words.specs.Words.{bytes_of, words_of, word_at, twos, untwos}
use Rattle.config.specs.Configuration.{states, config_of}
use Rattle.config.specs.declared.MicroPriceConfig.{MicroPriceConfig}
use Rattle.quotes.specs.declared.Skip.TheVariants.{Gap, Spread}
use Rattle.quotes.specs.declared.TopOfBook.{TopOfBook}
use Rattle.tally.specs.Entries.{Tables, tables}
use Rattle.tally.specs.Events.{Counts}
use Rattle.tally.specs.Rules.{Memory}
use Rattle.calibrator.specs.Record.{skipped, memory, Previous}
use Rattle.calibrator.specs.declared.Record.{Record}

-- ---- the forms of a header

-- a header's form is its number of words; every form has 01's twenty
abbrev pub oldest : ℕ
oldest = 20

-- the form that save writes
abbrev pub newest : ℕ
newest = oldest

-- the forms that restore reads
abbrev pub is_read : ℕ → Bool
is_read form = eqb form newest

-- the header's length in bytes, where the tables begin
abbrev pub header_length : ℕ → ℕ
header_length form = 8 * form

-- N²
abbrev pub cells : MicroPriceConfig → ℕ
cells c = states c * states c

-- 160 + 16N² + 8N, by the header's length
abbrev pub image_length : ℕ → MicroPriceConfig → ℕ
image_length form c = header_length form + 16 * cells c + 8 * states c

-- ---- writing

-- 1 if a last quote follows else 0, its five words (else zeros)
abbrev pub previous_words : Previous → List ℕ
previous_words None = 0 ∷ 0 ∷ 0 ∷ 0 ∷ 0 ∷ 0 ∷ []
previous_words (Some q) = 1 ∷ q.timestamp_ms ∷ q.bid ∷ q.ask ∷ q.bid_size ∷ q.ask_size ∷ []

-- what a form has past the twenty words: none that is written or read has any, another would hold zeros
abbrev pub further : ℕ → List ℕ
further form = replicate (form - oldest) 0

-- N, n, s, tick, least observations, gap, offsets of stay, moved and move totals, the last quote, pairs, spread skips, gap skips, largest change, length
unfoldable pub header : ℕ → MicroPriceConfig → Previous → Counts → List ℕ
header form c l k =
    states c ∷
    c.imbalance_buckets ∷
    c.spread_states ∷
    c.tick_size ∷
    c.min_state_observations ∷
    c.max_quote_gap_ms ∷
    header_length form ∷
    (header_length form + 8 * cells c) ∷
    (header_length form + 16 * cells c) ∷
    (previous_words l ++ (k.pairs ∷ skipped Spread k ∷ skipped Gap k ∷ k.largest ∷ image_length form c ∷ further form))

-- the tables follow, totals as two's complement
abbrev pub body : Tables → List ℕ
body t = t.stay ++ (t.moved ++ map twos t.totals)

abbrev pub image : ℕ → MicroPriceConfig → Memory Previous → List ℕ
image form c m = bytes_of (header form c m.last m.counts ++ body m.counts.tables)

-- ---- reading

-- word k of the header
abbrev pub word : List ℕ → ℕ → ℕ
word b k = word_at b (8 * k)

-- an image's form, by its stay offset
abbrev pub form_in : List ℕ → ℕ
form_in b = word b 6 / 8

abbrev pub config_in : ℕ → List ℕ → MicroPriceConfig
config_in form b = config_of (word b 3 ∷ word b 1 ∷ word b 2 ∷ word b 4 ∷ word b 5 ∷ [])

abbrev pub quote_in : List ℕ → TopOfBook
quote_in b =
    record { timestamp_ms = word b 10; bid = word b 11; ask = word b 12; bid_size = word b 13; ask_size = word b 14 }

abbrev pub previous_in : List ℕ → Previous
previous_in b = cond (eqb (word b 9) 1) (Some (quote_in b)) None

abbrev pub record_in : ℕ → List ℕ → Record
record_in form b =
    record {
      previous = previous_in b;
      counters =
          record {
            pairs = word b 15;
            skipped_spread_pairs = word b 16;
            skipped_gap_pairs = word b 17;
            largest_move_half_ticks = word b 18;
          };
    }

-- the tables of N states in the bytes after the header
abbrev pub tables_from : ℕ → List ℕ → Tables
tables_from N b =
    tables (words_of (N * N) b) (words_of (N * N) (drop (8 * (N * N)) b)) (map untwos (words_of N (drop (16 * (N * N)) b)))

-- what an image holds
abbrev pub memory_in : ℕ → List ℕ → Memory Previous
memory_in form b =
    let t = tables_from (states (config_in form b)) (drop (header_length form) b) in
    memory (record_in form b) t.stay t.moved t.totals

-- the words of the header
unfoldable pub header_in : ℕ → List ℕ → List ℕ
header_in form b = words_of form b

-- a form that is read, whose header's words are those of the content that they hold, and the length is that content's
abbrev pub laid_out : ℕ → List ℕ → Bool
laid_out form b =
    is_read form
    && (same_words (header_in form b) (header form (config_in form b) (previous_in b) (memory_in form b).counts)
    && eqb (length b) (image_length form (config_in form b)))
