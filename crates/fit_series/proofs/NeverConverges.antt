-- A term that B gives back, neither infinite nor tiny: the series does not converge in any number of rounds. By induction on the rounds, from any sum.
use Prim.Native.Nat.{ℕ, zero, suc}
use mathlib.Core.Path.{◌≡◌, refl, ◌∙◌}
use mathlib.Core.Bool.{false}
use Rattle.fit_linear.specs.Arithmetic.{Arith}
use Rattle.fit_series.specs.Series.{not_converged, series_sum, series_term, Vector, times, plus, largest, summed}
use Rattle.fit_series.proofs.Vectors.{SameVector, dot-same, largest-same}

module _ (F : Arith) (n : ℕ) (B : ℕ → Vector F) (v : Vector F) (back : SameVector n (times F n B v) v) where
  open F use {is_infinite, is_tiny}

  pub never-converges : is_infinite (largest F n v) ≡ false → is_tiny (largest F n v) ≡ false
      → (rounds : ℕ) (sum term : Vector F) → SameVector n term v
      → summed F n B rounds sum term ≡ not_converged (series_sum (summed F n B rounds sum term)) (series_term (summed F n B rounds sum term))
  unfolding summed
  never-converges i t zero sum term h = refl
  never-converges i t (suc rounds) sum term h =
      rw (largest-same F n (times F n B term) v next, i, t)
      (never-converges i t rounds (plus F sum (times F n B term)) (times F n B term) next)
    where
      next : SameVector n (times F n B term) v
      next k b = dot-same F n (B k) term (B k) v (λ j g. refl) h ∙ back k b
