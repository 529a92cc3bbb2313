-- 18 of document 01, "Run": quotes 0 100 101 9 1 and 1 101 102 9 1 make one move from state 2 to itself, and its mirror at state 0. Their fit is 18 with every
-- number of rounds: the system is solved by computing, B gives G1 back, and `never-converges` does the rounds.
use Prim.Native.Nat.{ℕ, ◌+◌}
use mathlib.Core.Path.{◌≡◌, refl, sym, ap, ◌∙◌}
use mathlib.Core.Bool.{Bool, true, false, cond}
use mathlib.Core.List.{List, ◌∷◌, ◌++◌}
use lib.IntN.{pos, negsuc}
use lib.ListN.{length, replicate}
use lib.Ieee.{Float, nan, add, sub, mul, div, neg, lt, le, eq, is_nan, round, of_bits, of_int}
use Rattle.basics.specs.Lists.{tab}
use Rattle.basics.proofs.Lists.{get_or-tab}
use Rattle.floats.specs.Floats.{pos_zero, abs, as_great, max, is_infinite, tiny}
use Rattle.refusals.specs.Refusals.{refusal}
use Rattle.std.specs.Prelude.{Ok}
use Rattle.config.specs.Configuration.{new_config, with_min_state_observations, with_max_quote_gap_ms}
use Rattle.config.specs.declared.MicroPriceConfig.{MicroPriceConfig}
use Rattle.tally.specs.Entries.{tables}
use Rattle.tally.specs.Events.{Counts}
use Rattle.tally.specs.Rules.{Memory}
use Rattle.calibrator.specs.Record.{Previous}
use Rattle.fit_rounds.specs.Rounds.{default_series_rounds, default_fallback_rounds, wrong_rounds}
use Rattle.fit_marking.specs.Below.{sum_to, some_to}
use Rattle.fit_marking.specs.Marks.{observations, reaches_in, mark_of}
use Rattle.fit_linear.specs.Arithmetic.{rounded}
use Rattle.fit_linear.specs.Elimination.{solved, matrix_of, system, pivot_row, swapped, cleared, reduced, column_solved, columns_solved, gauss_jordan}
use Rattle.fit_linear.specs.Inner.{float_at}
use Rattle.fit_series.specs.Series.{dot, times, largest, fallback_within}
use Rattle.fit_series.proofs.Vectors.{SameVector}
use Rattle.fit_series.proofs.NeverConverges.{never-converges}
use Rattle.fit_system.specs.Rows.{part, used, system_of}
use Rattle.fit_system.specs.Solution.{unsolved, summed_up, solution_from, solution_of}
use Rattle.fit_estimates.specs.Estimates.{Given}
use Rattle.fit.specs.Fit.{refused, fit_from, fit_of, given_of, fit_refusal_with, fit_unless, end_fit, fitted_with, fit_counts}

-- tick 1, n 3, s 2, least 1, gap 1000
abbrev pub config18 : MicroPriceConfig
config18 = with_max_quote_gap_ms (with_min_state_observations (new_config 1 3 2) 1) 1000

-- moved (0, 0) and (2, 2), of 6 states, are 1
abbrev pub counts18 : Counts
counts18 =
    record {
      pairs = 1;
      skips = replicate 2 0;
      largest = 2;
      tables = tables (replicate 36 0) (1 ∷ replicate 13 0 ++ 1 ∷ replicate 21 0) (negsuc 1 ∷ pos 0 ∷ pos 2 ∷ replicate 3 (pos 0));
    }

abbrev G : Given
G = given_of config18 counts18

-- ---- the system solved, and its term

abbrev A : ℕ → ℕ → Float
A = matrix_of (gauss_jordan rounded 6 (system_of G.cells G.total))

abbrev B : ℕ → ℕ → Float
B i j = A i (6 + 2 + j)

abbrev G1 : ℕ → Float
G1 i = A i 6

-- a state is Calibrated, the system is solved, and B × G1 is G1, which is neither infinite nor tiny
record Computed18 : Type 0 where
  some-used : some_to 6 (used G.cells) ≡ true
  is-solved : gauss_jordan rounded 6 (system_of G.cells G.total) ≡ solved A
  given_back : tab 6 (times rounded 6 B G1) ≡ tab 6 G1
  not_infinite : is_infinite (largest rounded 6 G1) ≡ false
  not-tiny : lt (largest rounded 6 G1) tiny ≡ false

computed-18 : Computed18
unfolding dot largest part system pivot_row swapped cleared reduced column_solved columns_solved observations reaches_in mark_of sum_to some_to abs as_great max is_infinite add sub mul div neg lt le eq is_nan round of_bits of_int
computed-18 = record { some-used = refl; is-solved = refl; given_back = refl; not_infinite = refl; not-tiny = refl }

term-back : SameVector 6 (times rounded 6 B G1) G1
term-back k h = sym (get_or-tab 6 (times rounded 6 B G1) k nan h) ∙ ap (λ l. float_at l k) computed-18.given_back ∙ get_or-tab 6 G1 k nan h

-- ---- the fit

module _ (rounds moves : ℕ) where
  solution-18 : solution_of rounds moves G.cells G.total ≡ unsolved 18
  unfolding solution_of
  solution-18 =
      ap (solution_from 6 rounds moves) computed-18.is-solved
      ∙ ap (summed_up G1 (fallback_within rounded 6 B (λ i. A i (6 + 1)) moves))
      (never-converges rounded 6 B G1 term-back computed-18.not_infinite computed-18.not-tiny rounds G1 G1 (λ k h. refl))

  fit-18 : fit_of rounds moves G ≡ refused 18
  unfolding fit_of
  fit-18 =
      ap (λ (b : Bool). cond b (fit_from G (solution_of rounds moves G.cells G.total)) (refused 16)) computed-18.some-used
      ∙ ap (fit_from G) solution-18

-- ---- the operation

module _ (last : Previous) (model : List ℕ) (scratch : List Float) (enough : length scratch ≡ 132) (rows : length model ≡ 42) where
  abbrev m : Memory Previous
  m = record { last = last; counts = counts18 }

  fine-18 : (rounds moves : ℕ) → wrong_rounds rounds moves ≡ false → fit_refusal_with rounds moves config18 m (length scratch) (length model) ≡ Ok tt
  fine-18 rounds moves e = rw (e, enough, rows)

  -- with every number of rounds, of the series and of the share: scratch is all plus zero, the model table as it was
  pub refused-18 : (rounds moves : ℕ) → wrong_rounds rounds moves ≡ false
      → fitted_with rounds moves config18 m model scratch ≡ end_fit (refusal 18) model (replicate (length scratch) pos_zero)
  refused-18 rounds moves e = λ j. fit_unless (fine-18 rounds moves e j) 6 (fit-18 rounds moves j) model scratch

  -- at the defaults
  pub fit-refused-18 : fit_counts config18 m model scratch ≡ end_fit (refusal 18) model (replicate (length scratch) pos_zero)
  fit-refused-18 = refused-18 default_series_rounds default_fallback_rounds refl
