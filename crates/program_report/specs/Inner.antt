-- For the contracts and proofs of inner functions alone: an evening's memory before it.
use Rattle.std.specs.Prelude.{ℕ, ◌+◌, ◌*◌, ◌≡◌, List, Float, pos, replicate}
use Rattle.floats.specs.Floats.{pos_zero}
use Rattle.tally.specs.Entries.{Tables}

-- for N states: zeros in the tables, in scratch and in the model table
pub record Zeros (N : ℕ) (t : Tables) (scratch : List Float) (model : List ℕ) : Type 0 where
  pub stay-is : t.stay ≡ replicate (N * N) 0
  pub moved-is : t.moved ≡ replicate (N * N) 0
  pub totals-is : t.totals ≡ replicate N (pos 0)
  pub scratch-is : scratch ≡ replicate (N * (2 * N + 10)) pos_zero
  pub model_is : model ≡ replicate (7 * N) 0
