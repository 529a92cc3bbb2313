-- The rows Q, T and K and the system of the fit: document 01, "The fit". Generic in the states.
use Rattle.std.specs.Prelude.{ℕ, Bool, cond, ℤ, pos, Float, List, get_or}
use Rattle.std.specs.Float.{binary64}
use Rattle.std.specs.Float.Ieee.{div}
use Rattle.floats.specs.Floats.{pos_zero, one, from_int}
use Rattle.model.specs.Status.{is_calibrated}
use Rattle.fit_marking.specs.Marks.{Cells, observations, mark_of}
use Rattle.fit_linear.specs.Arithmetic.{rounded}
use Rattle.fit_linear.specs.Elimination.{system}

-- only Calibrated states have rows
abbrev pub used : Cells → ℕ → Bool
used C i = is_calibrated (mark_of C i)

-- a number of a row by its observations, where the row is used
unfoldable pub part : Bool → ℤ → ℕ → Float
unfolding div
part used number observed = cond used (div binary64 (from_int number) (from_int (pos observed))) pos_zero

-- stay / observations
abbrev pub Q : Cells → ℕ → ℕ → Float
Q C i j = part (used C i) (pos (C.stay i j)) (observations C i)

-- moved / observations
abbrev pub T : Cells → ℕ → ℕ → Float
T C i j = part (used C i) (pos (C.moved i j)) (observations C i)

-- move total / observations
abbrev pub K : Cells → (ℕ → ℤ) → ℕ → Float
K C total i = part (used C i) (total i) (observations C i)

-- 1 for a fallback state, else 0
abbrev pub fallback : Cells → ℕ → Float
fallback C i = cond (used C i) pos_zero one

-- (1 − Q) | K | fallback | T
abbrev pub system_of : Cells → (ℕ → ℤ) → ℕ → ℕ → Float
system_of C total = system rounded C.states (Q C) (K C total) (fallback C) (T C)

-- the totals by state
abbrev pub total_of : List ℤ → ℕ → ℤ
total_of totals i = get_or totals i (pos 0)
