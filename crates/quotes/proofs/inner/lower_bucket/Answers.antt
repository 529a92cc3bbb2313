-- `quotes::inner::lower_bucket` meets its contract: the definition searches for the bucket, the code divides once, and the two agree for sizes with the lighter
-- one first (`by-division`). With 1 in the place of 0 the number divided, one less, is the same. The product fits a word: 10^9 times 256 (`fits-mul`).
use Prim.Native.Nat.{ℕ, ◌-◌, ◌+◌, ◌*◌, ◌/◌}
use mathlib.Core.Path.{◌≡◌, sym, ap, ◌∙◌}
use native.Mathlib.Omega.{arith}
use Rattle.quotes.proofs.Buckets.{by-division}
use Rattle.quotes.proofs.inner.lower_bucket.Goals as goal

pub returns : goal.returns
returns c =
    let a = c.args in
    let p = c.requires in
    let scaled : c.max-scaled.result - 1 ≡ a.lighter * a.n - 1 = omega (arith, c.max-scaled.ensures) in
    ap (λ (x : ℕ). x / (a.lighter + a.heavier)) scaled
    ∙ sym (by-division a.lighter a.heavier a.n p.0 p.1 p.3)
