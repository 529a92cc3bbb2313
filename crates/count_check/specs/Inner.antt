-- For the contracts and proofs of inner functions alone: what the check asks of tables, wherever they lie.
use Rattle.std.specs.Prelude.{ℕ, ◌*◌, ◌/◌, ◌≤◌, ◌<◌, Bool, ◌||◌, List, map, get_or, length, ◌≡◌}
use Rattle.tally.specs.Entries.{Tables, tables}
use Rattle.tally.specs.Limits.{over_counter}
use Rattle.calibrator.specs.declared.Counters.{Counters}
use Rattle.image_words.specs.Words.{words_of, untwos}

-- the counters' part of 6, of a struct of counters
abbrev pub counters_over : Counters → Bool
counters_over k = over_counter k.pairs || over_counter k.skipped_spread_pairs || over_counter k.skipped_gap_pairs

-- the words of bytes, as many as are whole
abbrev pub words_in : List ℕ → List ℕ
words_in b = words_of (length b / 8) b

-- the tables in the parts of an image
abbrev pub tables_in_bytes : List ℕ → List ℕ → List ℕ → Tables
tables_in_bytes stay moved totals = tables (words_in stay) (words_in moved) (map untwos (words_in totals))

-- tables of n states
pub record HasTables (n : ℕ) (t : Tables) : Type 0 where
  pub few : n ≤ 256
  pub stay-cells : length t.stay ≡ n * n
  pub moved-cells : length t.moved ≡ n * n
  pub totals-cells : length t.totals ≡ n

-- a table of mirrors: n numbers below n
pub record Mirrors (n : ℕ) (ms : List ℕ) : Type 0 where
  pub enough : n ≤ length ms
  pub below : (i : ℕ) → i < n → get_or ms i 0 < n
