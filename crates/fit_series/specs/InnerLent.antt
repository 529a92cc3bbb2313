-- What a function leaves of a lent scratch.
use Rattle.std.specs.Prelude.{ℕ, ◌≡◌, List, Float}
use Rattle.fit_series.specs.declared.inner.LentScratch.{LentScratch}

-- the same slice, of as many states; its floats before and after are in a relation, which is given the number of states
pub record Changed (Become : ℕ → List Float → List Float → Type 0) (before after : LentScratch) : Type 0 where
  pub states : after.n ≡ before.n
  pub slice : after.floats.ghost_name ≡ before.floats.ghost_name
  pub floats : Become before.n before.floats.now after.floats.now
