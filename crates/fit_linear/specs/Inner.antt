-- For the contracts and proofs of inner functions alone: rows and parts of one flat list of floats, what elimination leaves there, and what its loops leave.
use Rattle.std.specs.Prelude.{ℕ, ◌+◌, ◌*◌, ◌<◌, ◌≤◌, ◌≡◌, List, ◌⊎◌, get_or, Float, ⊤, Result, Ok, Err}
use Rattle.std.specs.Float.{nan}
use Rattle.basics.specs.Lists.{cell_index}
use Rattle.fit_linear.specs.Elimination.{Elimination, solved, singular, matrix_of}
use Rattle.fit_linear.specs.declared.Singular.{Singular}

-- the float at a place
abbrev pub float_at : List Float → ℕ → Float
float_at l i = get_or l i nan

-- the floats from a place on
abbrev pub from : ℕ → List Float → ℕ → Float
from base l k = float_at l (base + k)

-- row after row, each of w floats
abbrev pub rows_of : ℕ → List Float → ℕ → ℕ → Float
rows_of w l r k = float_at l (cell_index w r k)

-- a place outside n places from base on
abbrev pub Outside : ℕ → ℕ → ℕ → Type 0
Outside base n i = (i < base) ⊎ (base + n ≤ i)

-- n rows of w are a matrix; every other place is as it was
pub record Becomes (n w : ℕ) (A : ℕ → ℕ → Float) (before after : List Float) : Type 0 where
  pub cells : (r k : ℕ) → r < n → k < w → rows_of w after r k ≡ A r k
  pub elsewhere : (i : ℕ) → n * w ≤ i → float_at after i ≡ float_at before i

-- ---- elimination

abbrev pub solve_of : Elimination Float → Result ⊤ Singular
solve_of (solved A) = Ok tt
solve_of (singular A) = Err (record {})

-- the answer, and its matrix in the n rows of w
pub record Eliminated (n w : ℕ) (a : Elimination Float) (before : List Float) (answer : Result ⊤ Singular) (after : List Float) : Type 0 where
  pub answers : answer ≡ solve_of a
  pub becomes : Becomes n w (matrix_of a) before after

-- n places from base on hold a vector; every other place is as it was
pub record Filled (base n : ℕ) (v : ℕ → Float) (before after : List Float) : Type 0 where
  pub cells : (k : ℕ) → k < n → from base after k ≡ v k
  pub elsewhere : (i : ℕ) → Outside base n i → float_at after i ≡ float_at before i

-- two parts of n places change places; every other place is as it was
pub record Swapped (a b n : ℕ) (before after : List Float) : Type 0 where
  pub first : (k : ℕ) → k < n → from a after k ≡ from b before k
  pub second : (k : ℕ) → k < n → from b after k ≡ from a before k
  pub elsewhere : (i : ℕ) → Outside a n i → Outside b n i → float_at after i ≡ float_at before i
