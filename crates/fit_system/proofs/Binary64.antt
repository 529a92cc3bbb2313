-- Each cell of the fit's system, and of it solved, is binary64's: a quotient, zero or one.
use Prim.Native.Nat.{ℕ}
use mathlib.Core.Bool.{Bool}
use lib.Dec.{T}
use lib.IntN.{ℤ, pos}
use lib.Ieee.{binary64, fits}
use lib.Ieee.Bits.{of_bits-fits}
use lib.Ieee.Fits.{cond-fits, div-fits}
use Rattle.floats.specs.Floats.{pos_zero, one, from_int}
use Rattle.fit_marking.specs.Marks.{Cells, observations}
use Rattle.fit_linear.specs.Arithmetic.{rounded}
use Rattle.fit_linear.specs.Elimination.{matrix_of, gauss_jordan}
use Rattle.fit_linear.proofs.Binary64.{CellsFit, solved-fits, system-fits}
use Rattle.fit_system.specs.Rows.{used, part, Q, T as moved, K, fallback, system_of}

part-fits : (b : Bool) (z : ℤ) (n : ℕ) → T (fits binary64 (part b z n))
unfolding part
part-fits b z n = cond-fits binary64 b _ pos_zero (div-fits binary64 (from_int z) (from_int (pos n))) (of_bits-fits binary64 0)

system-of-fits : (C : Cells) (total : ℕ → ℤ) → CellsFit (system_of C total)
system-of-fits C total =
    system-fits C.states (Q C) (K C total) (fallback C) (moved C)
    (λ r k. part-fits (used C r) (pos (C.stay r k)) (observations C r))
    (λ r. part-fits (used C r) (total r) (observations C r))
    (λ r. cond-fits binary64 (used C r) pos_zero one (of_bits-fits binary64 0) (of_bits-fits binary64 0x3ff0_0000_0000_0000))
    (λ r k. part-fits (used C r) (pos (C.moved r k)) (observations C r))

pub system-solved-fits : (C : Cells) (total : ℕ → ℤ) → CellsFit (matrix_of (gauss_jordan rounded C.states (system_of C total)))
system-solved-fits C total = solved-fits C.states (system_of C total) (system-of-fits C total)
