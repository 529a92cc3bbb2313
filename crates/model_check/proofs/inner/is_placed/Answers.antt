-- `model_check::inner::is_placed` meets its contract: the two tests are the definition's. How far the state is from the first of its spread level is its bucket
-- (`level-bucket`), and the level's spread is its own.
use mathlib.Core.Bool.{◌&&◌}
use Prim.Native.Nat.{◌+◌}
use lib.Dec.{eqb}
use Rattle.quotes.proofs.Levels.{level-bucket}
use Rattle.model_check.proofs.inner.is_placed.Goals as goal

pub returns : goal.returns
returns c =
    let a = c.args in
    let l = c.requires.0 in
    let bucket = level-bucket a.config.imbalance_buckets a.level.first a.i l.within in
    λ t. eqb a.e.imbalance_bucket (bucket t + 1) && eqb a.e.spread_ticks (l.spread-is t)
