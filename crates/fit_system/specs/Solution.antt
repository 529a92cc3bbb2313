-- The solved system, its series and its share: document 01, "The fit".
use Rattle.std.specs.Prelude.{ℕ, ◌+◌, ℤ, Float}
use Rattle.fit_marking.specs.Marks.{Cells}
use Rattle.fit_linear.specs.Arithmetic.{rounded}
use Rattle.fit_linear.specs.Elimination.{Elimination, solved, singular, gauss_jordan}
use Rattle.fit_series.specs.Series.{Series, converged, not_converged, sum_series, fallback_within}
use Rattle.fit_system.specs.Rows.{system_of}

-- G1, the sum of its series and the share, by state; or why there is none, by the refusal's number
pub data Solution : Type 0 where
  solution : (ℕ → Float) → (ℕ → Float) → (ℕ → Float) → Solution
  unsolved : ℕ → Solution

-- 18: the series does not converge
abbrev pub summed_up : (ℕ → Float) → (ℕ → Float) → Series Float → Solution
summed_up G1 share (converged sum term) = solution G1 sum share
summed_up G1 share (not_converged sum term) = unsolved 18

-- the column F after solving
abbrev pub column_f : ℕ → (ℕ → ℕ → Float) → ℕ → Float
column_f N A i = A i (N + 1)

-- 17: singular; else the columns after solving are G1, F and B
abbrev pub solution_from : ℕ → ℕ → ℕ → Elimination Float → Solution
solution_from N rounds moves (singular A) = unsolved 17
solution_from N rounds moves (solved A) =
    let B : ℕ → ℕ → Float = λ i j. A i (N + 2 + j) in
    summed_up (λ i. A i N) (fallback_within rounded N B (column_f N A) moves) (sum_series rounded N B (λ i. A i N) rounds)

-- with at most so many rounds of the series, and so many of the share
unfoldable pub solution_of : ℕ → ℕ → Cells → (ℕ → ℤ) → Solution
solution_of rounds moves C total = solution_from C.states rounds moves (gauss_jordan rounded C.states (system_of C total))
