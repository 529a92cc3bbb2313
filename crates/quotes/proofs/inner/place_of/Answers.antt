-- `quotes::inner::place_of` meets its contract: no state where the spread is over the spread states; else the state is the spread's first one plus the bucket,
-- and its mirror the same first one plus n less 1 less the bucket, which is what the definition's quotient and remainder give (`mirror-row`). The bucket is
-- below n (`bucket-le`) and the spread is 1 or more (`spread-least`), so nothing passes below 0; both factors are at most 256 (`fits-mul`). No loop.
use Prim.Native.Nat.{◌-◌, ◌<◌}
use native.Mathlib.Omega.{arith}
use native.Mathlib.Nat.{mul-le-mul}
use borrow.Author.Tests.{le-ltb}
use Rattle.quotes.proofs.Buckets.{bucket-le}
use Rattle.quotes.proofs.States.{mirror-row}
use Rattle.quotes.proofs.inner.place_of.Goals as goal

pub returns : goal.returns
returns c =
    let a = c.args in
    let below : c.bucket_of-bucket.result < a.config.imbalance_buckets =
    omega (arith, c.bucket_of-bucket.ensures, bucket-le a.q.bid_size a.q.ask_size a.config.imbalance_buckets) in
    rw (
      ← c.spread_of-spread.ensures,
      ← c.bucket_of-bucket.ensures,
      le-ltb _ _ c.if-config-spread.false,
      mirror-row a.config.imbalance_buckets (c.spread_of-spread.result - 1) c.bucket_of-bucket.result below,
    )

-- the first state of the spread is a product of small numbers
pub overflow_add-result : goal.overflow_add-result
overflow_add-result c =
    let a = c.args in
    omega (
      arith,
      c.bucket_of-bucket.ensures,
      bucket-le a.q.bid_size a.q.ask_size a.config.imbalance_buckets,
      mul-le-mul {n₁ = c.spread_of-spread.result - 1} {m₁ = a.config.imbalance_buckets} {n₂ = 256} {m₂ = 256} (omega arith) (omega arith),
    )

pub overflow_sub-result-2 : goal.overflow_sub-result-2
overflow_sub-result-2 c =
    let a = c.args in
    omega (arith, c.bucket_of-bucket.ensures, bucket-le a.q.bid_size a.q.ask_size a.config.imbalance_buckets)
