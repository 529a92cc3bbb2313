-- Only the cells of n rows of w count: matrices that agree there have answers that agree there. For a caller whose definition is a matrix and whose list holds
-- it.
use Prim.Native.Nat.{ℕ, zero, suc, ◌+◌, ◌-◌, ◌<◌, ◌≤◌}
use mathlib.Core.Path.{◌≡◌, refl, sym, ap, ◌∙◌}
use mathlib.Core.Bool.{Bool, true, false, cond}
use mathlib.Core.List.{List}
use native.Mathlib.Omega.{arith}
use borrow.Author.Tests.{eqb-true, eqb-false}
use lib.Dec.{eqb}
use lib.Ieee.{Float}
use Rattle.std.specs.Prelude.{⊤, Result}
use Rattle.fit_linear.specs.Arithmetic.{Arith, rounded}
use Rattle.fit_linear.specs.Elimination.{Elimination, solved, singular, matrix_of, and_then, Matrix, pivot_row, swapped, normalized, cleared, reduced, column_solved, columns_solved, gauss_jordan}
use Rattle.fit_linear.specs.Inner.{rows_of, solve_of, Eliminated}
use Rattle.fit_linear.specs.declared.Singular.{Singular}
use Rattle.fit_linear.proofs.Pivot.{pivot-within}
use Rattle.fit_linear.proofs.Steps.{reduced-own, reduced-other}

-- the same in n rows of w
abbrev pub Same : {Num : Type 0} → ℕ → ℕ → (ℕ → ℕ → Num) → (ℕ → ℕ → Num) → Type 0
Same n w A B = (r k : ℕ) → r < n → k < w → A r k ≡ B r k

abbrev pub SameAnswer : {Num : Type 0} → ℕ → ℕ → Elimination Num → Elimination Num → Type 0
SameAnswer n w (solved A) (solved B) = Same n w A B
SameAnswer n w (solved A) (singular B) = ⊥
SameAnswer n w (singular A) (solved B) = ⊥
SameAnswer n w (singular A) (singular B) = Same n w A B

module _ (F : Arith) (n w : ℕ) (narrow : n ≤ w) where
  open F use {Num, ◌⊘◌, size, as_great, is_tiny}

  infixl 70 ◌⊘◌
  pivot-same : (A B : Matrix F) → Same n w A B → (c m : ℕ) → c + m < n → pivot_row F A c m ≡ pivot_row F B c m
  unfolding pivot_row
  pivot-same A B h c zero hm = refl
  pivot-same A B h c (suc m) hm = go _ _ (pivot-same A B h c m (omega arith)) (pivot-within F B c m).1
    where
      go : (x y : ℕ) → x ≡ y → y ≤ c + m
          → cond (as_great (size (A x c)) (size (A (c + suc m) c))) (c + suc m) x ≡ cond (as_great (size (B y c)) (size (B (c + suc m) c))) (c + suc m) y
      go x y e q = rw (e, h y c (omega arith) (omega arith), h (c + suc m) c hm (omega arith))

  swapped_same : (A B : Matrix F) → Same n w A B → (c p : ℕ) → c < n → p < n → Same n w (swapped F A c p) (swapped F B c p)
  unfolding swapped
  swapped_same A B h c p hc hp r k hr hk = rw (h p k hp hk, h c k hc hk, h r k hr hk)

  reduced-same : (A B : Matrix F) → Same n w A B → (c : ℕ) → c < n → Same n w (reduced F A c) (reduced F B c)
  unfolding cleared
  reduced-same A B h c hc r k hr hk = go (eqb r c) refl
    where
      norm : normalized F A c k ≡ normalized F B c k
      norm = ap (λ s. s ⊘ A c c) (h c k hc hk) ∙ ap (λ s. B c k ⊘ s) (h c c hc (omega arith))

      other : cleared F (A r c) (A r) (normalized F A c) k ≡ cleared F (B r c) (B r) (normalized F B c) k
      other = rw (norm, h r c hr (omega arith), h r k hr hk)

      go : (b : Bool) → eqb r c ≡ b → reduced F A c r k ≡ reduced F B c r k
      go true e = rw (eqb-true r c e) (reduced-own F A c k ∙ norm ∙ sym (reduced-own F B c k))
      go false e = reduced-other F A c r k (eqb-false r c e) ∙ other ∙ sym (reduced-other F B c r k (eqb-false r c e))

  pub column-same : (A B : Matrix F) → Same n w A B → (c : ℕ) → c < n → SameAnswer n w (column_solved F n A c) (column_solved F n B c)
  unfolding column_solved
  column-same A B h c hc = go _ _ (pivot-same A B h c (n - (c + 1)) (omega arith)) (omega (arith, pivot-within F B c (n - (c + 1))))
    where
      both : (p : ℕ) → p < n → (b : Bool)
          → SameAnswer n w (cond b (singular A) (solved (reduced F (swapped F A c p) c))) (cond b (singular B) (solved (reduced F (swapped F B c p) c)))
      both p hp true = h
      both p hp false = reduced-same (swapped F A c p) (swapped F B c p) (swapped_same A B h c p hc hp) c hc

      go : (x p : ℕ) → x ≡ p → p < n
          → SameAnswer n w (cond (is_tiny (size (A x c))) (singular A) (solved (reduced F (swapped F A c x) c)))
          (cond (is_tiny (size (B p c))) (singular B) (solved (reduced F (swapped F B c p) c)))
      go x p e hp = rw (e, h p c hp (omega arith)) (both p hp (is_tiny (size (B p c))))

  columns-same : (A B : Matrix F) → Same n w A B → (m : ℕ) → m ≤ n → SameAnswer n w (columns_solved F n A m) (columns_solved F n B m)
  unfolding columns_solved
  columns-same A B h zero hm = h
  columns-same A B h (suc m) hm = go (columns_solved F n A m) (columns_solved F n B m) (columns-same A B h m (omega arith))
    where
      go : (a b : Elimination Num) → SameAnswer n w a b → SameAnswer n w (and_then a (λ C. column_solved F n C m)) (and_then b (λ C. column_solved F n C m))
      go (solved C) (solved D) q = column-same C D q m hm
      go (solved C) (singular D) q = absurd q
      go (singular C) (solved D) q = absurd q
      go (singular C) (singular D) q = q

  pub answer-same : (A B : Matrix F) → Same n w A B → SameAnswer n w (gauss_jordan F n A) (gauss_jordan F n B)
  answer-same A B h = columns-same A B h n (omega arith)

-- what elimination leaves, given by an answer that agrees
module _ {n w : ℕ} {l m : List Float} {x : Result ⊤ Singular} where
  like : (a b : Elimination Float) → solve_of a ≡ solve_of b → Same n w (matrix_of a) (matrix_of b) → Eliminated n w a l x m → Eliminated n w b l x m
  like a b h s e =
      record {
        answers = e.answers ∙ h;
        becomes = record { cells = λ r k hr hk. e.becomes.cells r k hr hk ∙ s r k hr hk; elsewhere = e.becomes.elsewhere };
      }

  pub eliminated-same : (a b : Elimination Float) → SameAnswer n w a b → Eliminated n w a l x m → Eliminated n w b l x m
  eliminated-same (solved A) (solved B) h = like _ _ refl h
  eliminated-same (solved A) (singular B) h = absurd h
  eliminated-same (singular A) (solved B) h = absurd h
  eliminated-same (singular A) (singular B) h = like _ _ refl h

-- elimination of rows that hold A
pub eliminated-of : (n w : ℕ) → n ≤ w → (l m : List Float) (x : Result ⊤ Singular) (A : ℕ → ℕ → Float) → Same n w (rows_of w l) A
    → Eliminated n w (gauss_jordan rounded n (rows_of w l)) l x m → Eliminated n w (gauss_jordan rounded n A) l x m
eliminated-of n w narrow l m x A h = eliminated-same _ _ (answer-same rounded n w narrow (rows_of w l) A h)
