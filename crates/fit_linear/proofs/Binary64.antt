-- Each cell of a solved matrix is binary64's: it is a cell of the system, or a result of a division or of a subtraction.
use Prim.Native.Nat.{ℕ, zero, suc, ◌+◌, ◌-◌}
use mathlib.Core.Bool.{Bool, true, false, cond}
use lib.Dec.{T, eqb, ltb}
use lib.Ieee.{Float, binary64, fits}
use lib.Ieee.Fits.{cond-fits, neg-fits, sub-fits, div-fits}
use Rattle.floats.specs.Floats.{one}
use Rattle.fit_linear.specs.Arithmetic.{Arith, rounded}
use Rattle.fit_linear.specs.Elimination.{Elimination, solved, singular, matrix_of, and_then, Matrix, system, pivot_row, swapped, normalized, cleared, reduced, column_solved, columns_solved, gauss_jordan}

-- ---- what each difference and each quotient has, elimination keeps

module _ (F : Arith) (P : Arith.Num F → Type 0) where
  open F use {Num, ◌⊖◌, ◌⊗◌, ◌⊘◌, size, is_zero, is_tiny}

  infixl 65 ◌⊖◌
  infixl 70 ◌⊗◌
  infixl 70 ◌⊘◌
  cond-kept : (b : Bool) (x y : Num) → P x → P y → P (cond b x y)
  cond-kept true x y h k = h
  cond-kept false x y h k = k

  -- each cell has it
  abbrev pub EachCell : Matrix F → Type 0
  EachCell A = (r k : ℕ) → P (A r k)

  module _ (differences : (x y : Num) → P (x ⊖ y)) (quotients : (x y : Num) → P (x ⊘ y)) where
    swapped-kept : (A : Matrix F) (c p : ℕ) → EachCell A → EachCell (swapped F A c p)
    unfolding swapped
    swapped-kept A c p h r k = cond-kept (eqb r c) (A p k) (cond (eqb r p) (A c k) (A r k)) (h p k) (cond-kept (eqb r p) (A c k) (A r k) (h c k) (h r k))

    cleared-kept : (factor : Num) (row top : ℕ → Num) (k : ℕ) → P (row k) → P (cleared F factor row top k)
    unfolding cleared
    cleared-kept factor row top k h = cond-kept (is_zero factor) (row k) (row k ⊖ factor ⊗ top k) h (differences _ _)

    reduced-kept : (A : Matrix F) (c : ℕ) → EachCell A → EachCell (reduced F A c)
    unfolding reduced
    reduced-kept A c h r k =
        cond-kept (eqb r c) (normalized F A c k) (cleared F (A r c) (A r) (normalized F A c) k) (quotients _ _)
        (cleared-kept (A r c) (A r) (normalized F A c) k (h r k))

    column-kept : (n : ℕ) (A : Matrix F) (c : ℕ) → EachCell A → EachCell (matrix_of (column_solved F n A c))
    unfolding column_solved
    column-kept n A c h = go (is_tiny (size (A p c)))
      where
        p : ℕ
        p = pivot_row F A c (n - (c + 1))

        go : (b : Bool) → EachCell (matrix_of (cond b (singular A) (solved (reduced F (swapped F A c p) c))))
        go true = h
        go false = reduced-kept (swapped F A c p) c (swapped-kept A c p h)

    pub columns-kept : (n : ℕ) (A : Matrix F) → EachCell A → (m : ℕ) → EachCell (matrix_of (columns_solved F n A m))
    unfolding columns_solved
    columns-kept n A h zero = h
    columns-kept n A h (suc m) = go (columns_solved F n A m) (columns-kept n A h m)
      where
        go : (a : Elimination Num) → EachCell (matrix_of a) → EachCell (matrix_of (and_then a (λ B. column_solved F n B m)))
        go (solved B) g = column-kept n B m g
        go (singular B) g = g

-- ---- binary64

-- each number of a vector is binary64's
abbrev pub NumbersFit : (ℕ → Float) → Type 0
NumbersFit v = (k : ℕ) → T (fits binary64 (v k))

-- each cell of a matrix is
abbrev pub CellsFit : (ℕ → ℕ → Float) → Type 0
CellsFit A = (r : ℕ) → NumbersFit (A r)

-- solved or singular
pub solved-fits : (n : ℕ) (A : ℕ → ℕ → Float) → CellsFit A → CellsFit (matrix_of (gauss_jordan rounded n A))
solved-fits n A h = columns-kept rounded (λ x. T (fits binary64 x)) (sub-fits binary64) (div-fits binary64) n A h n

pub system-fits : (n : ℕ) (Q : ℕ → ℕ → Float) (K fallback : ℕ → Float) (moved : ℕ → ℕ → Float)
    → CellsFit Q → NumbersFit K → NumbersFit fallback → CellsFit moved → CellsFit (system rounded n Q K fallback moved)
unfolding system
system-fits n Q K fallback moved q k f t r j =
    cond-fits binary64 (ltb j n) _ _
    (cond-fits binary64 (eqb r j) _ _ (sub-fits binary64 one (Q r j)) (neg-fits binary64 (Q r j) (q r j)))
    (cond-fits binary64 (eqb j n) (K r) _ (k r)
    (cond-fits binary64 (eqb j (n + 1)) (fallback r) _ (f r) (t r (j - (n + 2)))))
