-- A fit whose series needs 39 rounds: 38 are answered 18, 39 give the model, and any more the same (`fit-more`), the default 10,000 among them; and its shares
-- after 0, 1, 10 and 100 rounds.
use Prim.Native.Nat.{ℕ, ◌≤◌}
use mathlib.Core.Path.{◌≡◌, refl, sym, ap, ◌∙◌}
use mathlib.Core.List.{[], ◌∷◌}
use native.Mathlib.Omega.{arith}
use lib.IntN.{pos, negsuc}
use lib.ListN.{replicate}
use lib.Ieee.{add, sub, mul, div, neg, lt, le, eq, is_nan, round, of_bits, of_int, to_bits}
use Rattle.basics.proofs.Tests.{zero-not-one}
use Rattle.floats.specs.Floats.{pos_zero, abs, as_great, max, is_infinite, clamp, plus_zero, half}
use Rattle.refusals.specs.Refusals.{refusal}
use Rattle.std.specs.Prelude.{None, Ok}
use Rattle.config.specs.Configuration.{new_config, with_min_state_observations, with_max_quote_gap_ms}
use Rattle.config.specs.declared.MicroPriceConfig.{MicroPriceConfig}
use Rattle.tally.specs.Entries.{tables}
use Rattle.tally.specs.Rules.{Memory}
use Rattle.calibrator.specs.Record.{Previous}
use Rattle.fit_rounds.specs.Rounds.{default_series_rounds, default_fallback_rounds, most_series_rounds, most_fallback_rounds}
use Rattle.fit_marking.specs.Below.{sum_to, some_to}
use Rattle.fit_marking.specs.Marks.{observations, reaches_in, mark_of}
use Rattle.fit_linear.specs.Elimination.{system, pivot_row, swapped, cleared, reduced, column_solved, columns_solved}
use Rattle.fit_series.specs.Series.{dot, largest, summed, share_after}
use Rattle.fit_system.specs.Rows.{part}
use Rattle.fit_system.specs.Solution.{solution_of}
use Rattle.fit_estimates.specs.Estimates.{adjusted, estimate_of}
use Rattle.fit.specs.Fit.{FitOutcome, judged_rows, fit_of, end_fit, fitted_with, fit_counts}
use Rattle.fit.proofs.MoreRounds.{fit-more}

-- tick 1, n 3, s 1, least 1, gap 60,000
abbrev pub config39 : MicroPriceConfig
config39 = with_max_quote_gap_ms (with_min_state_observations (new_config 1 3 1) 1) 60000

-- states 0 and 2 each move once to themselves and once to state 1
abbrev pub memory39 : Memory Previous
memory39 =
    record {
      last = None;
      counts =
          record {
            pairs = 2;
            skips = replicate 2 0;
            largest = 1;
            tables = tables (replicate 9 0) (1 ∷ 1 ∷ 0 ∷ 0 ∷ 0 ∷ 0 ∷ 0 ∷ 1 ∷ 1 ∷ []) (negsuc 0 ∷ pos 0 ∷ pos 1 ∷ []);
          };
    }

-- so many rounds of the series, and of the share
abbrev pub with_rounds : ℕ → ℕ → FitOutcome
with_rounds rounds moves = fitted_with rounds moves config39 memory39 (replicate 21 0) (replicate 48 pos_zero)

-- 18: the model table as it was, scratch all plus zero
abbrev pub refused39 : FitOutcome
refused39 = end_fit (refusal 18) (replicate 21 0) (replicate 48 pos_zero)

-- a state a line: bucket, spread, observations, first adjustment, adjustment, share, status; the share of states 0 and 2 is given
abbrev pub found39 : ℕ → FitOutcome
found39 share =
    end_fit (Ok tt)
    (1 ∷ 1 ∷ 2 ∷ 0xbfd0_0000_0000_0000 ∷ 0xbfdf_ffff_ffff_e000 ∷ share ∷ 0
    ∷ 2 ∷ 1 ∷ 0 ∷ 0 ∷ 0 ∷ 0x3ff0_0000_0000_0000 ∷ 1
    ∷ 3 ∷ 1 ∷ 2 ∷ 0x3fd0_0000_0000_0000 ∷ 0x3fdf_ffff_ffff_e000 ∷ share ∷ 0 ∷ [])
    (replicate 48 pos_zero)

pub record Computed39 : Type 0 where
  pub with-38 : with_rounds 38 default_fallback_rounds ≡ refused39
  -- 1 − 2^−10
  pub with-39 : with_rounds 39 default_fallback_rounds ≡ found39 0x3fef_f800_0000_0000
  -- 0, 1/2 and 1
  pub share-0 : with_rounds 39 0 ≡ found39 0
  pub share-1 : with_rounds 39 1 ≡ found39 0x3fe0_0000_0000_0000
  pub share-100 : with_rounds 39 most_fallback_rounds ≡ found39 0x3ff0_0000_0000_0000

pub computed-39 : Computed39
unfolding judged_rows fit_of solution_of adjusted estimate_of part dot largest summed share_after system pivot_row swapped cleared reduced column_solved columns_solved observations reaches_in mark_of sum_to some_to abs as_great max is_infinite clamp plus_zero half add sub mul div neg lt le eq is_nan round of_bits of_int to_bits
computed-39 = record { with-38 = refl; with-39 = refl; share-0 = refl; share-1 = refl; share-100 = refl }

pub from-39 : (rounds : ℕ) → 39 ≤ rounds → rounds ≤ most_series_rounds → with_rounds rounds default_fallback_rounds ≡ found39 0x3fef_f800_0000_0000
from-39 rounds h limit =
    fit-more 39 rounds default_fallback_rounds h limit config39 memory39 (replicate 21 0) (replicate 48 pos_zero)
    (λ e. zero-not-one (cc (answers ∙ e)))
    (λ e. zero-not-one (cc (answers ∙ e)))
    ∙ computed-39.with-39
  where
    answers : Ok tt ≡ (with_rounds 39 default_fallback_rounds).answer
    answers = sym (ap (λ (o : FitOutcome). o.answer) computed-39.with-39)

-- with the default 10,000
pub fit-39 : fit_counts config39 memory39 (replicate 21 0) (replicate 48 pos_zero) ≡ found39 0x3fef_f800_0000_0000
fit-39 = from-39 default_series_rounds (omega arith) (omega arith)
