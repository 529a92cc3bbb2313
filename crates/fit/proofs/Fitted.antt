-- Fits computed by their definition, each with its whole outcome (`ComputedFits`): the example that document 01 prints, 16, 17 and 19 of its "Run", and two
-- tables whose words are the Rust's (tests/comparison/fit_cases.txt). Before each fit the model table is all 9, and scratch all 1. Then what document 02, Q-10,
-- judges of the rounds, and the share with none (`ComputedRounds`).
use Prim.Native.Nat.{ℕ, ◌*◌, ◌+◌, ◌-◌, ◌^◌}
use mathlib.Core.Path.{◌≡◌, refl}
use mathlib.Core.Bool.{cond, ◌&&◌}
use mathlib.Core.List.{List, [], ◌∷◌, ◌++◌}
use lib.Dec.{eqb}
use lib.IntN.{ℤ, pos, neg_ℤ}
use lib.ListN.{replicate}
use lib.Ieee.{Float, add, sub, mul, div, neg, lt, le, eq, is_nan, round, of_bits, of_int, to_bits}
use Rattle.basics.specs.Lists.{square}
use Rattle.floats.specs.Floats.{pos_zero, one, abs, as_great, max, is_infinite, clamp, plus_zero, half}
use Rattle.refusals.specs.Refusals.{refusal}
use Rattle.std.specs.Prelude.{None, Ok}
use Rattle.config.specs.Configuration.{new_config, with_min_state_observations, with_max_quote_gap_ms, states}
use Rattle.config.specs.declared.MicroPriceConfig.{MicroPriceConfig}
use Rattle.quotes.proofs.Marked.{marked}
use Rattle.tally.specs.Entries.{tables}
use Rattle.tally.specs.Rules.{Memory}
use Rattle.calibrator.specs.Record.{Previous}
use Rattle.fit_rounds.specs.Rounds.{default_series_rounds, default_fallback_rounds, most_fallback_rounds}
use Rattle.fit_marking.specs.Below.{sum_to, some_to}
use Rattle.fit_marking.specs.Marks.{observations, reaches_in, mark_of}
use Rattle.fit_linear.specs.Elimination.{system, pivot_row, swapped, cleared, reduced, column_solved, columns_solved}
use Rattle.fit_series.specs.Series.{dot, largest, summed, share_after}
use Rattle.fit_system.specs.Rows.{part}
use Rattle.fit_system.specs.Solution.{solution_of}
use Rattle.fit_estimates.specs.Estimates.{adjusted, estimate_of}
use Rattle.fit.specs.Fit.{FitOutcome, judged_rows, fit_of, end_fit, fitted_with, fit_counts}

-- ---- tables by their cells, and outcomes

-- row, column and count
pub data Cell : Type 0 where
  cell : ℕ → ℕ → ℕ → Cell

abbrev count_in : List Cell → ℕ → ℕ → ℕ
count_in [] i j = 0
count_in (cell r k x ∷ cells) i j = cond (eqb r i && eqb k j) x (count_in cells i j)

-- N states, pairs, the largest change, the cells of stay and of moved that are not zero, and the move totals
abbrev with_counts : ℕ → ℕ → ℕ → List Cell → List Cell → List ℤ → Memory Previous
with_counts N pairs largest stay moved totals =
    record {
      last = None;
      counts =
          record {
            pairs = pairs;
            skips = 0 ∷ 0 ∷ [];
            largest = largest;
            tables = tables (square N (count_in stay)) (square N (count_in moved)) totals;
          };
    }

-- the model table and scratch of N states before a fit
abbrev pub nines : ℕ → List ℕ
nines N = replicate (7 * N) 9

abbrev pub ones : ℕ → List Float
ones N = replicate (N * (2 * N + 10)) one

abbrev pub outcome_of : MicroPriceConfig → Memory Previous → FitOutcome
outcome_of c m = fit_counts c m (nines (states c)) (ones (states c))

-- the outcome of N states where the fit succeeds with this model, and where it answers 16 to 19
abbrev pub succeeds : ℕ → List ℕ → FitOutcome
succeeds N model = end_fit (Ok tt) model (replicate (N * (2 * N + 10)) pos_zero)

abbrev pub fails_with : ℕ → ℕ → FitOutcome
fails_with N k = end_fit (refusal k) (nines N) (replicate (N * (2 * N + 10)) pos_zero)

-- bucket, spread, observations, bits of first adjustment, adjustment and share, status
abbrev row : ℕ → ℕ → ℕ → ℕ → ℕ → ℕ → ℕ → List ℕ
row bucket spread observed first adjustment share status = bucket ∷ spread ∷ observed ∷ first ∷ adjustment ∷ share ∷ status ∷ []

-- a state with no observations
abbrev unseen : ℕ → ℕ → List ℕ
unseen bucket spread = row bucket spread 0 0 0 0x3ff0_0000_0000_0000 1

-- ---- document 01: the example that it prints

-- quotes 0 100 101 9 1 and 1 100 102 5 5: from state 2 to 4 with change 1, and the mirror
abbrev printed-cells : ℕ → Memory Previous
printed-cells pairs = with_counts 6 pairs 1 [] (cell 0 4 1 ∷ cell 2 4 1 ∷ []) (neg_ℤ (pos 1) ∷ pos 0 ∷ pos 1 ∷ replicate 3 (pos 0))

abbrev printed-counts : Memory Previous
printed-counts = printed-cells 1

abbrev pub printed-model : List ℕ
printed-model =
    row 1 1 1 0xbfe0_0000_0000_0000 0xbfe0_0000_0000_0000 0x3ff0_0000_0000_0000 0
    ++ unseen 2 1
    ++ row 3 1 1 0x3fe0_0000_0000_0000 0x3fe0_0000_0000_0000 0x3ff0_0000_0000_0000 0
    ++ unseen 1 2
    ++ unseen 2 2
    ++ unseen 3 2

-- ---- document 01, "Run"

-- 16: quotes 0 100 101 9 1 and 1 101 102 5 5: from state 2 to 1 with change 2, and the mirror
abbrev counts16 : Memory Previous
counts16 = with_counts 6 1 2 [] (cell 0 1 1 ∷ cell 2 1 1 ∷ []) (neg_ℤ (pos 2) ∷ pos 0 ∷ pos 2 ∷ replicate 3 (pos 0))

-- 17: stay(1,1) = 2^44, moved(1,1) = 2, pairs 2^43 + 1
abbrev counts17 : Memory Previous
counts17 = with_counts 6 (2 ^ 43 + 1) 1 (cell 1 1 (2 ^ 44) ∷ []) (cell 1 1 2 ∷ []) (replicate 6 (pos 0))

-- 19: tick 10^9, n = 5, stay(0,1) = stay(4,3) = 1, stay(1,0) = stay(3,4) = 10^10, moved(1,2) = moved(3,2) = 1, totals 2^53 at 0 and −2^53 at 4
abbrev config19 : MicroPriceConfig
config19 = with_max_quote_gap_ms (with_min_state_observations (new_config (10 ^ 9) 5 2) 1) 1000

abbrev counts19 : Memory Previous
counts19 =
    with_counts 10 10000000002 1
    (cell 0 1 1 ∷ cell 4 3 1 ∷ cell 1 0 (10 ^ 10) ∷ cell 3 4 (10 ^ 10) ∷ [])
    (cell 1 2 1 ∷ cell 3 2 1 ∷ [])
    (pos (2 ^ 53) ∷ pos 0 ∷ pos 0 ∷ pos 0 ∷ neg_ℤ (pos (2 ^ 53)) ∷ replicate 5 (pos 0))

-- ---- a stay cell between two states

abbrev three-buckets : MicroPriceConfig
three-buckets = with_max_quote_gap_ms (with_min_state_observations (new_config 1 3 1) 1) 1000

-- 1 − Q has −1/2 at (0, 2) and (2, 0), so that row 2 is cleared by the factor −1/2; K is −1/2 and 1/2, G1 about −1/3 and 1/3
abbrev stay-counts : Memory Previous
stay-counts = with_counts 3 2 1 (cell 0 2 1 ∷ cell 2 0 1 ∷ []) (cell 0 1 1 ∷ cell 2 1 1 ∷ []) (neg_ℤ (pos 1) ∷ pos 0 ∷ pos 1 ∷ [])

abbrev stay-model : List ℕ
stay-model =
    row 1 1 2 0xbfc5_5555_5555_5556 0xbfc5_5555_5555_5556 0x3ff0_0000_0000_0000 0
    ++ unseen 2 1
    ++ row 3 1 2 0x3fc5_5555_5555_5556 0x3fc5_5555_5555_5556 0x3ff0_0000_0000_0000 0

-- ---- two rounds of the series

-- quotes 0 100 101 1 9, 1 100 102 1 9 and 2 101 103 5 5: from state 0 to 3 with change 1, from 3 to 4 with change 2, and the mirrors
abbrev two-moves : Memory Previous
two-moves =
    with_counts 6 2 2 []
    (cell 0 3 1 ∷ cell 2 5 1 ∷ cell 3 4 1 ∷ cell 5 4 1 ∷ [])
    (pos 1 ∷ pos 0 ∷ neg_ℤ (pos 1) ∷ pos 2 ∷ pos 0 ∷ neg_ℤ (pos 2) ∷ [])

-- state 0: first adjustment 1/2, adjustment 3/2, which is outside the quotes; state 3: both 1, which is half the spread
abbrev two-moves-model : List ℕ
two-moves-model =
    row 1 1 1 0x3fe0_0000_0000_0000 0x3ff8_0000_0000_0000 0x3ff0_0000_0000_0000 3
    ++ unseen 2 1
    ++ row 3 1 1 0xbfe0_0000_0000_0000 0xbff8_0000_0000_0000 0x3ff0_0000_0000_0000 3
    ++ row 1 2 1 0x3ff0_0000_0000_0000 0x3ff0_0000_0000_0000 0x3ff0_0000_0000_0000 0
    ++ unseen 2 2
    ++ row 3 2 1 0xbff0_0000_0000_0000 0xbff0_0000_0000_0000 0x3ff0_0000_0000_0000 0

-- ---- the fits

pub record ComputedFits : Type 0 where
  pub printed : outcome_of (marked 1) printed-counts ≡ succeeds 6 printed-model
  pub no-calibrated : outcome_of (marked 1) counts16 ≡ fails_with 6 16
  pub singular : outcome_of (marked 1) counts17 ≡ fails_with 6 17
  pub unrepresentable : outcome_of config19 counts19 ≡ fails_with 10 19
  pub eliminated : outcome_of three-buckets stay-counts ≡ succeeds 3 stay-model
  pub two-rounds : outcome_of (marked 1) two-moves ≡ succeeds 6 two-moves-model
  -- with one round it is 18
  pub one-round : fitted_with 1 default_fallback_rounds (marked 1) two-moves (nines 6) (ones 6) ≡ fails_with 6 18

pub fits-computed : ComputedFits
unfolding judged_rows fit_of solution_of adjusted estimate_of part dot largest summed share_after system pivot_row swapped cleared reduced column_solved columns_solved observations reaches_in mark_of sum_to some_to abs as_great max is_infinite clamp plus_zero half add sub mul div neg lt le eq is_nan round of_bits of_int to_bits
fits-computed =
    record {
      printed = refl;
      no-calibrated = refl;
      singular = refl;
      unrepresentable = refl;
      eliminated = refl;
      two-rounds = refl;
      one-round = refl;
    }

-- ---- document 02, Q-10: the rounds judged, and the share

-- 01's example with so many rounds, of the series and of the share
abbrev printed_with : ℕ → ℕ → FitOutcome
printed_with rounds moves = fitted_with rounds moves (marked 1) printed-counts (nines 6) (ones 6)

-- refused before the fit: nothing lent is changed
abbrev refused_unchanged : ℕ → List Float → FitOutcome
refused_unchanged k scratch = end_fit (refusal k) (nines 6) scratch

-- scratch a float short, four buckets, pairs 2
abbrev short-scratch : List Float
short-scratch = replicate (6 * (2 * 6 + 10) - 1) one

abbrev even-buckets : MicroPriceConfig
even-buckets = with_max_quote_gap_ms (with_min_state_observations (new_config 1 4 2) 1) 1000

abbrev unequal-pairs : Memory Previous
unequal-pairs = printed-cells 2

-- F of states 0 and 2 is 1/2: half of what is seen of them stays and leads to state 1, which is Rare, and half moves there
abbrev half-counts : Memory Previous
half-counts = with_counts 3 2 1 (cell 0 1 1 ∷ cell 2 1 1 ∷ []) (cell 0 1 1 ∷ cell 2 1 1 ∷ []) (neg_ℤ (pos 1) ∷ pos 0 ∷ pos 1 ∷ [])

-- with the share of states 0 and 2
abbrev half-model : ℕ → List ℕ
half-model share =
    row 1 1 2 0xbfd0_0000_0000_0000 0xbfd0_0000_0000_0000 share 0
    ++ unseen 2 1
    ++ row 3 1 2 0x3fd0_0000_0000_0000 0x3fd0_0000_0000_0000 share 0

pub record ComputedRounds : Type 0 where
  pub one-round-enough : printed_with 1 default_fallback_rounds ≡ succeeds 6 printed-model
  pub most-fallback : printed_with default_series_rounds most_fallback_rounds ≡ succeeds 6 printed-model
  -- with no round of the share it is F, with one F + B × F, here 1
  pub no-fallback : fitted_with 1 0 three-buckets half-counts (nines 3) (ones 3) ≡ succeeds 3 (half-model 0x3fe0_0000_0000_0000)
  pub one-fallback : fitted_with 1 1 three-buckets half-counts (nines 3) (ones 3) ≡ succeeds 3 (half-model 0x3ff0_0000_0000_0000)
  -- 26
  pub no-series : printed_with 0 default_fallback_rounds ≡ refused_unchanged 26 (ones 6)
  pub series-over : printed_with 10001 default_fallback_rounds ≡ refused_unchanged 26 (ones 6)
  pub series-low-word : printed_with (2 ^ 32 + 1) default_fallback_rounds ≡ refused_unchanged 26 (ones 6)
  pub series-largest : printed_with (2 ^ 64 - 1) default_fallback_rounds ≡ refused_unchanged 26 (ones 6)
  pub fallback-over : printed_with 1 101 ≡ refused_unchanged 26 (ones 6)
  -- after 1, before 7 and 11
  pub one-first : fitted_with 0 default_fallback_rounds even-buckets printed-counts (nines 6) (ones 6) ≡ refused_unchanged 1 (ones 6)
  pub before-seven : fitted_with 0 default_fallback_rounds (marked 1) printed-counts (nines 6) short-scratch ≡ refused_unchanged 26 short-scratch
  pub before-eleven : fitted_with 0 default_fallback_rounds (marked 1) unequal-pairs (nines 6) (ones 6) ≡ refused_unchanged 26 (ones 6)
  pub then-seven : fitted_with 1 default_fallback_rounds (marked 1) printed-counts (nines 6) short-scratch ≡ refused_unchanged 7 short-scratch
  pub then-eleven : fitted_with 1 default_fallback_rounds (marked 1) unequal-pairs (nines 6) (ones 6) ≡ refused_unchanged 11 (ones 6)

pub rounds-computed : ComputedRounds
unfolding judged_rows fit_of solution_of adjusted estimate_of part dot largest summed share_after system pivot_row swapped cleared reduced column_solved columns_solved observations reaches_in mark_of sum_to some_to abs as_great max is_infinite clamp plus_zero half add sub mul div neg lt le eq is_nan round of_bits of_int to_bits
rounds-computed =
    record {
      one-round-enough = refl;
      most-fallback = refl;
      no-fallback = refl;
      one-fallback = refl;
      no-series = refl;
      series-over = refl;
      series-low-word = refl;
      series-largest = refl;
      fallback-over = refl;
      one-first = refl;
      before-seven = refl;
      before-eleven = refl;
      then-seven = refl;
      then-eleven = refl;
    }
