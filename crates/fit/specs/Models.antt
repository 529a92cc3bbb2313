-- What the laws of proofs/Models.antt and FallbackRounds.antt say of a fitted model table: document 00, demand 3 (its last sentence), document 01,
-- "The fit", and document 02, Q-10.
use Rattle.std.specs.Prelude.{ℕ, ◌+◌, ◌*◌, ◌<◌, ◌≤◌, ◌≡◌, ◌≢◌, false, cond, List, ◌⊎◌, T, Float}
use Rattle.std.specs.Float.{binary64}
use Rattle.std.specs.Float.Ieee.{add, neg, lt, le}
use Rattle.std.specs.Float.Ieee.Exact.{HasValue}
use Rattle.std.specs.Float.Ieee.Scale.{finite}
use Rattle.floats.specs.Floats.{pos_zero, one, abs, clamp, plus_zero, half_spread}
use Rattle.config.specs.Configuration.{states}
use Rattle.config.specs.declared.MicroPriceConfig.{MicroPriceConfig}
use Rattle.quotes.specs.States.{bucket_in, spread_in}
use Rattle.model.specs.Rows.{row_word, row_at, plus_zeros}
use Rattle.model.specs.declared.StateEstimate.{StateEstimate}
use Rattle.fit_linear.specs.Arithmetic.{rounded}
use Rattle.fit_linear.specs.Elimination.{matrix_of, gauss_jordan}
use Rattle.fit_system.specs.Rows.{used, system_of}
use Rattle.fit_system.specs.Solution.{column_f}
use Rattle.fit_estimates.specs.Estimates.{Given}
use Rattle.fit.specs.Fit.{Fit, fitted, table_of}

-- the second is the first negated, zero as plus zero; their binary64 sum is plus zero
pub record Opposite (x y : Float) : Type 0 where
  pub negated : y ≡ plus_zero (neg x)
  pub sum-zero : add binary64 x y ≡ pos_zero

-- the rows of a state and of its mirror
pub record RowsOpposite (e mirror : StateEstimate) : Type 0 where
  pub status-same : mirror.status ≡ e.status
  pub observations-same : mirror.observations ≡ e.observations
  pub first-opposite : Opposite e.first_adjustment mirror.first_adjustment
  pub final-opposite : Opposite e.adjustment mirror.adjustment

-- a size of at most half the spread of state i, as floats and exactly: the size is num / den, and twice that is at most tick × spread
pub record Inside (c : MicroPriceConfig) (i : ℕ) (x : Float) : Type 0 where
  pub half-most : T (le (abs x) (half_spread c.tick_size (spread_in c.imbalance_buckets i)))
  pub num : ℕ
  pub den : ℕ
  pub den-some : 0 < den
  pub size : HasValue (abs x) false num den
  pub inside : 2 * num ≤ c.tick_size * spread_in c.imbalance_buckets i * den

-- the row of state i
pub record RowOf (c : MicroPriceConfig) (i : ℕ) (e : StateEstimate) : Type 0 where
  pub bucket-is : e.imbalance_bucket ≡ bucket_in c.imbalance_buckets i + 1
  pub spread-is : e.spread_ticks ≡ spread_in c.imbalance_buckets i
  pub status-known : e.status ≤ 3
  pub first-finite : T (finite e.first_adjustment)
  pub final-finite : T (finite e.adjustment)
  pub share-finite : T (finite e.fallback_within_moves)
  -- zero is plus zero
  pub first-plus : plus_zero e.first_adjustment ≡ e.first_adjustment
  pub final-plus : plus_zero e.adjustment ≡ e.adjustment
  pub share-plus : plus_zero e.fallback_within_moves ≡ e.fallback_within_moves
  pub share-least : T (le pos_zero e.fallback_within_moves)
  pub share-most : T (le e.fallback_within_moves one)
  -- Rare and NoPriceMove: the share is 1
  pub share-fallback : (e.status ≡ 1) ⊎ (e.status ≡ 2) → e.fallback_within_moves ≡ one
  -- OutsideQuotes: the size exceeds half the spread
  pub outside : e.status ≡ 3 → T (lt (half_spread c.tick_size (spread_in c.imbalance_buckets i)) (abs e.adjustment))

-- the table holds the rows of the fit, each zero as plus zero
pub record Written (c : MicroPriceConfig) (f : Fit) (t : List ℕ) : Type 0 where
  pub rows : ℕ → StateEstimate
  pub fit_is : f ≡ fitted rows
  pub table_is : t ≡ table_of (states c) rows
  pub rows_are : (i : ℕ) → i < states c → row_at t i ≡ plus_zeros (rows i)
  pub row_of : (i : ℕ) → i < states c → RowOf c i (row_at t i)

-- ---- rounds of the share

-- the share with 0 fallback rounds: F, clamped, and 1 for a fallback state
abbrev pub zero_moves_share : Given → ℕ → Float
zero_moves_share G i =
    let A : ℕ → ℕ → Float = matrix_of (gauss_jordan rounded G.cells.states (system_of G.cells G.total)) in
    cond (used G.cells i) (clamp (column_f G.cells.states A i)) one

-- all words but the shares, word 5 of each row, are equal
abbrev pub SameButShares : MicroPriceConfig → List ℕ → List ℕ → Type 0
SameButShares c t other = (i k : ℕ) → i < states c → k < 7 → k ≢ 5 → row_word t i k ≡ row_word other i k
