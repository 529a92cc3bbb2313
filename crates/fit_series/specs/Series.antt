-- The series G1 + B G1 + B B G1 + .. and the share: document 01, "The fit". A vector is a function of its index.
use Prim.Native.Nat.{ℕ, zero, suc}
use Rattle.std.specs.Prelude.{◌≡◌, true}
use Rattle.std.proofs.Math.Bool.{cond}
use Rattle.fit_linear.specs.Arithmetic.{Arith}

-- the sum and the last term where the rounds ended
pub data Series (Num : Type 0) : Type 0 where
  converged : (ℕ → Num) → (ℕ → Num) → Series Num
  not_converged : (ℕ → Num) → (ℕ → Num) → Series Num

abbrev pub series_sum : {Num : Type 0} → Series Num → ℕ → Num
series_sum (converged sum term) = sum
series_sum (not_converged sum term) = sum

abbrev pub series_term : {Num : Type 0} → Series Num → ℕ → Num
series_term (converged sum term) = term
series_term (not_converged sum term) = term

module _ (F : Arith) where
  open F use {Num, 𝟘, ◌⊕◌, ◌⊗◌, start, size, max, is_infinite, is_tiny, clamp}

  infixl 65 ◌⊕◌
  infixl 70 ◌⊗◌
  abbrev pub Vector : Type 0
  Vector = ℕ → Num

  -- left to right
  unfoldable pub dot : ℕ → Vector → Vector → Num
  dot zero u v = start
  dot (suc n) u v = dot n u v ⊕ u n ⊗ v n

  -- B × v
  abbrev pub times : ℕ → (ℕ → Vector) → Vector → Vector
  times n B v i = dot n (B i) v

  abbrev pub plus : Vector → Vector → Vector
  plus u v i = u i ⊕ v i

  -- the largest size
  unfoldable pub largest : ℕ → Vector → Num
  largest zero v = 𝟘
  largest (suc n) v = max (largest n v) (size (v n))

  -- a sum and its last term, with so many rounds left: term = B × term, added on; an infinite largest does not converge; a largest below 1e-12 ends
  unfoldable pub summed : ℕ → (ℕ → Vector) → ℕ → Vector → Vector → Series Num
  unfolding dot largest
  summed n B zero sum term = not_converged sum term
  summed n B (suc left) sum term =
      let next = times n B term in
      let total = plus sum next in
      cond (is_infinite (largest n next)) (not_converged total next)
      (cond (is_tiny (largest n next)) (converged total next)
      (summed n B left total next))

  -- a series that the number of its rounds did not cut off: it has converged, or its last term has an infinite largest
  abbrev pub RoundsEnded : ℕ → Series Num → Type 0
  RoundsEnded n (converged sum term) = Unit {0}
  RoundsEnded n (not_converged sum term) = is_infinite (largest n term) ≡ true

  -- G1 + B G1 + B B G1 + ..
  abbrev pub sum_series : ℕ → (ℕ → Vector) → Vector → ℕ → Series Num
  sum_series n B G1 rounds = summed n B rounds G1 G1

  -- F + B × share, so many times from F
  unfoldable pub share_after : ℕ → (ℕ → Vector) → Vector → ℕ → Vector
  unfolding dot
  share_after n B F zero = F
  share_after n B F (suc rounds) = plus F (times n B (share_after n B F rounds))

  -- the share, clamped to 0..1
  abbrev pub fallback_within : ℕ → (ℕ → Vector) → Vector → ℕ → Vector
  fallback_within n B F rounds i = clamp (share_after n B F rounds i)
