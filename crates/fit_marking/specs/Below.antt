-- Sums, tests and counts over the numbers below n.
use Rattle.std.specs.Prelude.{ℕ, Bool}
use Rattle.basics.specs.Lists.{any, tab, sum}

-- f 0 + f 1 + .. + f (n − 1)
unfoldable pub sum_to : ℕ → (ℕ → ℕ) → ℕ
sum_to n f = sum (tab n f)

-- whether a number below n passes the test
unfoldable pub some_to : ℕ → (ℕ → Bool) → Bool
some_to n p = any p (tab n (λ k. k))
