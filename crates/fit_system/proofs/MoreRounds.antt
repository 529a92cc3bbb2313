-- More rounds of the series: a system that answers anything but 18 has the same solution with any more.
use Prim.Native.Nat.{ℕ, ◌+◌, ◌≤◌}
use mathlib.Core.Path.{◌≡◌, refl, sym, ap, ◌∙◌}
use mathlib.Core.Logic.{◌≢◌}
use lib.IntN.{ℤ}
use lib.Ieee.{Float}
use Rattle.fit_marking.specs.Marks.{Cells}
use Rattle.fit_linear.specs.Arithmetic.{rounded}
use Rattle.fit_linear.specs.Elimination.{Elimination, solved, singular, gauss_jordan}
use Rattle.fit_series.specs.Series.{Series, converged, not_converged, sum_series, fallback_within}
use Rattle.fit_series.proofs.MoreRounds.{converged-more}
use Rattle.fit_system.specs.Rows.{system_of}
use Rattle.fit_system.specs.Solution.{unsolved, summed_up, solution_from, solution_of}

module _ (r r' : ℕ) (fewer : r ≤ r') where
  summed-up-more : (n : ℕ) (B : ℕ → ℕ → Float) (G1 share : ℕ → Float) → summed_up G1 share (sum_series rounded n B G1 r) ≢ unsolved 18
      → summed_up G1 share (sum_series rounded n B G1 r') ≡ summed_up G1 share (sum_series rounded n B G1 r)
  summed-up-more n B G1 share h = go (sum_series rounded n B G1 r) refl
    where
      go : (s : Series Float) → sum_series rounded n B G1 r ≡ s
          → summed_up G1 share (sum_series rounded n B G1 r') ≡ summed_up G1 share (sum_series rounded n B G1 r)
      go (converged sum term) e = ap (summed_up G1 share) (converged-more rounded n B r r' G1 G1 sum term fewer e ∙ sym e)
      go (not_converged sum term) e = absurd (h (ap (summed_up G1 share) e))

  -- the rounds of the share equal
  pub solution-more : (moves : ℕ) (C : Cells) (total : ℕ → ℤ) → solution_of r moves C total ≢ unsolved 18
      → solution_of r' moves C total ≡ solution_of r moves C total
  unfolding solution_of
  solution-more moves C total = go (gauss_jordan rounded C.states (system_of C total))
    where
      go : (a : Elimination Float) → solution_from C.states r moves a ≢ unsolved 18 → solution_from C.states r' moves a ≡ solution_from C.states r moves a
      go (singular A) h = refl
      go (solved A) h =
          let B : ℕ → ℕ → Float = λ i j. A i (C.states + 2 + j) in
          summed-up-more C.states B (λ i. A i C.states) (fallback_within rounded C.states B (λ i. A i (C.states + 1)) moves) h
