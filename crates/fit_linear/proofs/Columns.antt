-- One column after the other on flat rows.
use Prim.Native.Nat.{ℕ, zero, suc, ◌+◌, ◌-◌, ◌<◌, ◌≤◌}
use mathlib.Core.Path.{◌≡◌, refl, ◌∙◌}
use mathlib.Core.Bool.{true, false}
use mathlib.Core.List.{List}
use native.Mathlib.Nat.{add-zero, add-suc}
use native.Mathlib.Numerals.{add-one}
use native.Mathlib.Omega.{arith}
use lib.Ieee.{Float, lt}
use Rattle.std.specs.Prelude.{⊤, Result, Ok, Err, IsErr}
use Rattle.std.proofs.lemmas.Bool.{false≢true}
use Rattle.basics.proofs.Tests.{zero-not-one}
use Rattle.floats.specs.Floats.{abs, tiny}
use Rattle.fit_linear.specs.Arithmetic.{rounded}
use Rattle.fit_linear.specs.Elimination.{Elimination, solved, singular, and_then, pivot_row, swapped, reduced, column_solved, columns_solved, gauss_jordan}
use Rattle.fit_linear.specs.Inner.{rows_of, Becomes, Eliminated}
use Rattle.fit_linear.specs.InnerMatrix.{matrix_in, RowsEliminated}
use Rattle.fit_linear.specs.declared.Singular.{Singular}
use Rattle.fit_linear.specs.declared.inner.Rows.{Rows}
use Rattle.fit_linear.proofs.Cells.{column-same, eliminated-same}

-- an error says no more than that it is one
pub error-is : (x : Result ⊤ Singular) → IsErr x → x ≡ Err (record {})
error-is (Ok v) h = absurd (false≢true h)
error-is (Err e) h = refl

-- ---- one column: the pivot's row p is found, and the pivot's size x

module _ (n w c p : ℕ) {l : List Float} {x : Float} (found : (p < n) × (p ≡ pivot_row rounded (rows_of w l) c (n - (c + 1))))
    (size : x ≡ abs (rows_of w l p c)) where
  -- too small: nothing is written
  pub column-singular : lt x tiny ≡ true → Eliminated n w (column_solved rounded n (rows_of w l) c) l (Err (record {})) l
  unfolding column_solved
  column-singular h = rw (← found.1, ← size, h) (record { answers = refl; becomes = record { cells = λ r k hr hk. refl; elsewhere = λ i hi. refl } })

  -- else rows c and p change places, row c is divided by the pivot, and the rows above it and below it are cleared
  pub column-solved : {f : List Float} → lt x tiny ≡ false
      → Becomes n w (reduced rounded (swapped rounded (rows_of w l) c p) c) l f
      → Eliminated n w (column_solved rounded n (rows_of w l) c) l (Ok tt) f
  unfolding column_solved
  column-solved h b = rw (← found.1, ← size, h) (record { answers = refl; becomes = b })

-- ---- all columns

pub columns-none : {m : Rows} → RowsEliminated (columns_solved rounded m.n (matrix_in m) 0) m (Ok tt) m
unfolding columns_solved
columns-none =
    record {
      number = refl;
      width = refl;
      slice = refl;
      eliminated = record { answers = refl; becomes = record { cells = λ r k hr hk. refl; elsewhere = λ i hi. refl } };
    }

-- once singular, singular
stays : (n c k : ℕ) (A B : ℕ → ℕ → Float) → columns_solved rounded n A c ≡ singular B → columns_solved rounded n A (c + k) ≡ singular B
unfolding columns_solved
stays n c zero A B h = rw (add-zero c) h
stays n c (suc k) A B h = rw (add-suc c k, stays n c k A B h)

-- so a singular column makes the whole singular
all-singular : (n w c : ℕ) (l m : List Float) → c ≤ n → Eliminated n w (columns_solved rounded n (rows_of w l) c) l (Err (record {})) m
    → Eliminated n w (gauss_jordan rounded n (rows_of w l)) l (Err (record {})) m
all-singular n w c l m hc e = go (columns_solved rounded n (rows_of w l) c) refl e
  where
    go : (a : Elimination Float) → columns_solved rounded n (rows_of w l) c ≡ a → Eliminated n w a l (Err (record {})) m
        → Eliminated n w (gauss_jordan rounded n (rows_of w l)) l (Err (record {})) m
    go (solved A) h e = absurd (zero-not-one (cc e.answers))
    go (singular A) h e =
        let z : c + (n - c) ≡ n = omega arith in
        let s : columns_solved rounded n (rows_of w l) n ≡ singular A = rw z at (stays n c (n - c) (rows_of w l) A h) in
        rw s e

-- the first c columns are solved, and the answer for column c is x
module _ (n w c : ℕ) {l m m' : List Float} {x : Result ⊤ Singular} (narrow : n ≤ w) (hc : c < n)
    (s : Eliminated n w (columns_solved rounded n (rows_of w l) c) l (Ok tt) m)
    (e : Eliminated n w (column_solved rounded n (rows_of w m) c) m x m') where
  -- column c of a list that holds A
  next : (A : ℕ → ℕ → Float) → Becomes n w A l m → Eliminated n w (column_solved rounded n A c) l x m'
  next A b =
      let s = eliminated-same _ _ (column-same rounded n w narrow (rows_of w m) A b.cells c hc) e in
      record {
        answers = s.answers;
        becomes = record { cells = s.becomes.cells; elsewhere = λ i h. s.becomes.elsewhere i h ∙ b.elsewhere i h };
      }

  column : Eliminated n w (columns_solved rounded n (rows_of w l) (c + 1)) l x m'
  unfolding columns_solved
  column = rw add-one (go (columns_solved rounded n (rows_of w l) c) s)
    where
      go : (a : Elimination Float) → Eliminated n w a l (Ok tt) m → Eliminated n w (and_then a (λ B. column_solved rounded n B c)) l x m'
      go (solved A) s = next A s.becomes
      go (singular A) s = absurd (zero-not-one (cc s.answers))

module _ {c : ℕ} {a m b : Rows} {x : Result ⊤ Singular} (hc : c < a.n) (s : RowsEliminated (columns_solved rounded a.n (matrix_in a) c) a (Ok tt) m)
    (e : RowsEliminated (column_solved rounded m.n (matrix_in m) c) m x b) where
  solved-next : Eliminated a.n a.w (columns_solved rounded a.n (matrix_in a) (c + 1)) a.floats.now x b.floats.now
  solved-next = column a.n a.w c a.fits.0 hc s.eliminated (rw (s.number, s.width) at e.eliminated)

  left : {d : Elimination Float} {y : Result ⊤ Singular} → Eliminated a.n a.w d a.floats.now y b.floats.now → RowsEliminated d a y b
  left h = record { number = e.number ∙ s.number; width = e.width ∙ s.width; slice = e.slice ∙ s.slice; eliminated = h }

  -- one column more
  pub columns-more : x ≡ Ok tt → RowsEliminated (columns_solved rounded a.n (matrix_in a) (c + 1)) a (Ok tt) b
  columns-more h = left (rw h at solved-next)

  -- a singular column ends the elimination
  pub columns-singular : x ≡ Err (record {}) → RowsEliminated (gauss_jordan rounded a.n (matrix_in a)) a (Err (record {})) b
  columns-singular h = left (all-singular a.n a.w (c + 1) a.floats.now b.floats.now (omega arith) (rw h at solved-next))
