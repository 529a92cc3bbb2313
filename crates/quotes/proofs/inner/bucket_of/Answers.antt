-- `quotes::inner::bucket_of` meets its contract: the smaller size is the lighter one. Where that is the bid, the bucket is the lower one; else it is counted
-- from the other end, which does not pass below 0 because the lower bucket is at most n less 1 (`lower-le`). No loop.
use native.Mathlib.Omega.{arith}
use Rattle.quotes.proofs.Buckets.{lower-le}
use Rattle.quotes.proofs.inner.bucket_of.Goals as goal

pub overflow_sub-result-else-bid-ask : goal.overflow_sub-result-else-bid-ask
overflow_sub-result-else-bid-ask c =
    omega (
      arith,
      c.lower_bucket-b.ensures,
      lower-le c.min.result c.max.result c.args.n,
    )
