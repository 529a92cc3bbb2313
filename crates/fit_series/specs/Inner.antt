-- For the contracts and proofs of inner functions alone: where the rows and vectors of a fit stand in its scratch (document 01, "The fit": N × (2N + 10)
-- floats), and what the functions leave there.
use Rattle.std.specs.Prelude.{ℕ, ◌+◌, ◌-◌, ◌*◌, ◌<◌, ◌≤◌, ◌≡◌, cond, List, eqb, length, Float, ⊤, Result, Ok, Err}
use Rattle.fit_linear.specs.Arithmetic.{rounded}
use Rattle.fit_linear.specs.Inner.{float_at, from, rows_of, Outside, Filled}
use Rattle.fit_series.specs.Series.{Series, converged, not_converged, series_sum, series_term, times, share_after, dot, plus, largest}
use Rattle.fit_series.specs.declared.NotConverged.{NotConverged}

-- ---- scratch of n states: n rows of 2 n + 2, then n floats each of sum, share, term and next, and 4 n spare

abbrev pub width : ℕ → ℕ
width n = 2 * n + 2

abbrev pub sum_at : ℕ → ℕ
sum_at n = n * width n

abbrev pub share_at : ℕ → ℕ
share_at n = n * width n + n

abbrev pub term_at : ℕ → ℕ
term_at n = n * width n + 2 * n

abbrev pub next_at : ℕ → ℕ
next_at n = n * width n + 3 * n

-- the columns after solving: G1, F, B
abbrev pub solved_g1 : ℕ → List Float → ℕ → Float
solved_g1 n l i = rows_of (width n) l i n

abbrev pub solved_f : ℕ → List Float → ℕ → Float
solved_f n l i = rows_of (width n) l i (n + 1)

abbrev pub solved_b : ℕ → List Float → ℕ → ℕ → Float
solved_b n l i j = rows_of (width n) l i (n + 2 + j)

-- what is asked of lent scratch
pub record Scratch (n : ℕ) (l : List Float) : Type 0 where
  pub few : n ≤ 256
  pub enough : n * (2 * n + 10) ≤ length l

-- ---- the series

abbrev pub sum_answer : Series Float → Result ⊤ NotConverged
sum_answer (converged sum term) = Ok tt
sum_answer (not_converged sum term) = Err (record {})

-- the answer; sum, term and next, which is the last term where a round was made; every other place as it was
pub record Summed (n rounds : ℕ) (s : Series Float) (before : List Float) (answer : Result ⊤ NotConverged) (after : List Float) : Type 0 where
  pub answers : answer ≡ sum_answer s
  pub sums : (k : ℕ) → k < n → from (sum_at n) after k ≡ series_sum s k
  pub terms : (k : ℕ) → k < n → from (term_at n) after k ≡ series_term s k
  pub nexts : (k : ℕ) → k < n → from (next_at n) after k ≡ cond (eqb rounds 0) (from (next_at n) before k) (series_term s k)
  pub elsewhere : (i : ℕ) → Outside (sum_at n) n i → Outside (term_at n) (2 * n) i → float_at after i ≡ float_at before i

-- ---- the share

-- B × share of the last of so many rounds
abbrev pub last_product : ℕ → (ℕ → ℕ → Float) → (ℕ → Float) → ℕ → ℕ → Float
last_product n B F rounds = times rounded n B (share_after rounded n B F (rounds - 1))

-- share; next, which is the last product where a round was made; every other place as it was
pub record Shared (n rounds : ℕ) (share product : ℕ → Float) (before after : List Float) : Type 0 where
  pub shares : (k : ℕ) → k < n → from (share_at n) after k ≡ share k
  pub nexts : (k : ℕ) → k < n → from (next_at n) after k ≡ cond (eqb rounds 0) (from (next_at n) before k) (product k)
  pub elsewhere : (i : ℕ) → Outside (share_at n) n i → Outside (next_at n) n i → float_at after i ≡ float_at before i

-- the dot products of so many rows, w apart from i on, with the vector from j on
pub record Dots (rows i w j n : ℕ) (l sums : List Float) : Type 0 where
  pub as_many : length sums ≡ rows
  pub each : (r : ℕ) → r < rows → float_at sums r ≡ dot rounded n (from (i + r * w) l) (from j l)

-- the first m numbers of B times the vector from v on stand in next
abbrev pub ProductTo : ℕ → ℕ → ℕ → List Float → List Float → Type 0
ProductTo n v m before after = Filled (next_at n) m (times rounded n (solved_b n before) (from v before)) before after

-- column c of n rows of w can be read while n places from `to` on are written: it lies in the list, and no place of it is written before it is read
pub record Column (n w c to : ℕ) (l : List Float) : Type 0 where
  pub enough : to + n ≤ length l
  pub inside : (k : ℕ) → k < n → k * w + c < length l
  pub unwritten : (k : ℕ) → k < n → Outside to k (k * w + c)

-- one round: next = B × term, term = next, added on, and the largest size of the term
pub record TermAdded (n : ℕ) (before : List Float) (most : Float) (after : List Float) : Type 0 where
  pub size : most ≡ largest rounded n (times rounded n (solved_b n before) (from (term_at n) before))
  pub sums : (k : ℕ) → k < n → from (sum_at n) after k ≡ plus rounded (from (sum_at n) before) (times rounded n (solved_b n before) (from (term_at n) before)) k
  pub terms : (k : ℕ) → k < n → from (term_at n) after k ≡ times rounded n (solved_b n before) (from (term_at n) before) k
  pub nexts : (k : ℕ) → k < n → from (next_at n) after k ≡ times rounded n (solved_b n before) (from (term_at n) before) k
  pub elsewhere : (i : ℕ) → Outside (sum_at n) n i → Outside (term_at n) (2 * n) i → float_at after i ≡ float_at before i
