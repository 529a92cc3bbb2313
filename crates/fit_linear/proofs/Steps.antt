-- What one column makes of a cell: of the pivot's row the normalized row, of every other row the cleared row.
use Prim.Native.Nat.{ℕ}
use mathlib.Core.Path.{◌≡◌, refl}
use mathlib.Core.Logic.{◌≢◌}
use borrow.Author.Tests.{eq-eqb, ne_eqb}
use Rattle.fit_linear.specs.Arithmetic.{Arith}
use Rattle.fit_linear.specs.Elimination.{Matrix, normalized, cleared, reduced}

module _ (F : Arith) (A : Matrix F) (c : ℕ) where
  pub reduced-own : (k : ℕ) → reduced F A c c k ≡ normalized F A c k
  unfolding reduced
  reduced-own k = rw (eq-eqb c c refl)

  pub reduced-other : (r k : ℕ) → r ≢ c → reduced F A c r k ≡ cleared F (A r c) (A r) (normalized F A c) k
  unfolding reduced
  reduced-other r k h = rw (ne_eqb r c h)
