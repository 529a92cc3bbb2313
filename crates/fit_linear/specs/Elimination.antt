-- The system of the fit and its elimination, in `gauss_jordan`'s order: document 01, "The fit". A matrix is a function of row and column.
use Prim.Native.Nat.{ℕ, zero, suc, ◌+◌, ◌-◌}
use Rattle.std.proofs.Math.Bool.{cond}
use Rattle.std.specs.Prelude.{eqb, ltb}
use Rattle.fit_linear.specs.Arithmetic.{Arith}

-- the matrix with its first columns solved; or as it stands where a column has no pivot
pub data Elimination (Num : Type 0) : Type 0 where
  solved : (ℕ → ℕ → Num) → Elimination Num
  singular : (ℕ → ℕ → Num) → Elimination Num

abbrev pub matrix_of : {Num : Type 0} → Elimination Num → ℕ → ℕ → Num
matrix_of (solved A) = A
matrix_of (singular A) = A

abbrev pub and_then : {Num : Type 0} → Elimination Num → ((ℕ → ℕ → Num) → Elimination Num) → Elimination Num
and_then (solved A) next = next A
and_then (singular A) next = singular A

module _ (F : Arith) where
  open F use {Num, 𝟘, 𝟙, neg, ◌⊖◌, ◌⊗◌, ◌⊘◌, size, as_great, is_zero, is_tiny}

  infixl 65 ◌⊖◌
  infixl 70 ◌⊗◌
  infixl 70 ◌⊘◌
  abbrev pub Matrix : Type 0
  Matrix = ℕ → ℕ → Num

  -- (1 − Q) | K | fallback | T: columns 0 to n − 1, n, n + 1, and from n + 2 on
  unfoldable pub system : ℕ → Matrix → (ℕ → Num) → (ℕ → Num) → Matrix → Matrix
  system n Q K fallback T r k =
      cond (ltb k n) (cond (eqb r k) (𝟙 ⊖ Q r k) (neg (Q r k)))
      (cond (eqb k n) (K r)
      (cond (eqb k (n + 1)) (fallback r) (T r (k - (n + 2)))))

  -- the row of the greatest size in column c, of row c and the m rows below it; the last of equals
  unfoldable pub pivot_row : Matrix → ℕ → ℕ → ℕ
  pivot_row A c zero = c
  pivot_row A c (suc m) =
      let best = pivot_row A c m in
      let next = c + suc m in
      cond (as_great (size (A best c)) (size (A next c))) next best

  -- rows c and p change places
  unfoldable pub swapped : Matrix → ℕ → ℕ → Matrix
  swapped A c p r k = cond (eqb r c) (A p k) (cond (eqb r p) (A c k) (A r k))

  -- row c divided by its pivot
  abbrev pub normalized : Matrix → ℕ → ℕ → Num
  normalized A c k = A c k ⊘ A c c

  -- a row less its factor times the normalized row; a zero factor skips its row
  unfoldable pub cleared : Num → (ℕ → Num) → (ℕ → Num) → ℕ → Num
  cleared factor row top k = cond (is_zero factor) (row k) (row k ⊖ factor ⊗ top k)

  -- row c normalized, and column c cleared in every other row
  unfoldable pub reduced : Matrix → ℕ → Matrix
  unfolding cleared
  reduced A c r k = cond (eqb r c) (normalized A c k) (cleared (A r c) (A r) (normalized A c) k)

  -- column c of n rows: the pivot from the diagonal down; a size below 1e-12 is singular
  unfoldable pub column_solved : ℕ → Matrix → ℕ → Elimination Num
  unfolding pivot_row swapped reduced
  column_solved n A c =
      let p = pivot_row A c (n - (c + 1)) in
      cond (is_tiny (size (A p c))) (singular A) (solved (reduced (swapped A c p) c))

  -- columns 0 to m − 1
  unfoldable pub columns_solved : ℕ → Matrix → ℕ → Elimination Num
  unfolding column_solved
  columns_solved n A zero = solved A
  columns_solved n A (suc m) = and_then (columns_solved n A m) (λ B. column_solved n B m)

  -- n rows, the first n columns solved
  abbrev pub gauss_jordan : ℕ → Matrix → Elimination Num
  gauss_jordan n A = columns_solved n A n
