-- For the contracts and proofs of inner functions alone: what the functions inside the fit ask and leave.
use Rattle.std.specs.Prelude.{ℕ, ◌+◌, ◌<◌, ◌≤◌, ◌≡◌, List, ℤ, length, get_or, Float}
use Rattle.basics.specs.Domain.{most}
use Rattle.fit_marking.specs.Marks.{cells_of}
use Rattle.fit_marking.specs.Inner.{Fitting}
use Rattle.fit_linear.specs.Inner.{from}
use Rattle.fit_series.specs.Inner.{sum_at, share_at, solved_g1}
use Rattle.fit_system.specs.Rows.{total_of}
use Rattle.refusals.specs.Refusals.{refuse_if, first_of, Check}
use Rattle.config.specs.Configuration.{states}
use Rattle.config.specs.declared.MicroPriceConfig.{MicroPriceConfig}
use Rattle.tally.specs.Entries.{Tables}
use Rattle.calibrator.specs.Observe.{check_lent}
use Rattle.model.specs.declared.StateEstimate.{StateEstimate}
use Rattle.quotes.specs.States.{bucket_in, spread_in}
use Rattle.fit_estimates.specs.Estimates.{Given, estimate}
use Rattle.fit.specs.Fit.{Fit, wrong_fit_lengths, fit_answer, model_after}

-- what the inner functions are given: tables of n states and a table of their mirrors
abbrev pub given_in : ℕ → ℕ → ℕ → ℕ → List ℕ → List ℕ → List ℤ → List ℕ → Given
given_in n buckets tick least stay moved totals mirrors =
    record {
      cells = cells_of n least stay moved;
      total = total_of totals;
      tick = tick;
      mirror = λ i. get_or mirrors i 0;
      bucket = λ i. bucket_in buckets i + 1;
      spread = spread_in buckets;
    }

-- n states with their mirrors, a tick and buckets of the domain
pub record Usable (n buckets tick : ℕ) (stay moved mirrors : List ℕ) : Type 0 where
  pub few : n ≤ 256
  pub cells : Fitting n stay moved
  pub mirrors-long : n ≤ length mirrors
  pub mirrors-below : (i : ℕ) → i < n → get_or mirrors i 0 < n
  pub some-buckets : 0 < buckets
  pub tick-most : tick ≤ most

-- each state's estimate, from what stands in scratch
abbrev pub rows_in : ℕ → Given → List Float → ℕ → StateEstimate
rows_in n G l = estimate G (solved_g1 n l) (from (sum_at n) l) (from (share_at n) l)

-- the answer and the model table that a fit leaves
pub record FitEnds (n : ℕ) (f : Fit) (before : List ℕ) (answer : Check) (after : List ℕ) : Type 0 where
  pub answers : answer ≡ fit_answer f
  pub models : after ≡ model_after n f before

-- 1, 7: what a fit and an evening judge of the lengths
abbrev pub check_slices : MicroPriceConfig → Tables → ℕ → ℕ → Check
check_slices c t scratch model = first_of (check_lent c t) (refuse_if (wrong_fit_lengths (states c) scratch model) 7)
