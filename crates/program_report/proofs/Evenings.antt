-- The memory of an evening, cut from arrays of zeros.
use Prim.Native.Nat.{ℕ, zero, suc, ◌+◌, ◌*◌, ◌≤◌}
use mathlib.Core.Path.{◌≡◌, refl, ap}
use mathlib.Core.List.{◌∷◌}
use native.Mathlib.Omega.{arith}
use lib.IntN.{pos}
use lib.ListN.{take, replicate}
use Rattle.floats.specs.Floats.{pos_zero}
use Rattle.tally.specs.Entries.{tables}
use Rattle.program_report.specs.Inner.{Zeros}

pub front : {A : Type 0} (x : A) (k m : ℕ) → k ≤ m → take k (replicate m x) ≡ replicate k x
front x zero m h = refl
front x (suc k) zero h = absurd (omega arith)
front x (suc k) (suc m) h = ap (λ l. x ∷ l) (front x k m (omega arith))

-- for n states, at most 27
pub cut-zeros : {n : ℕ} → n ≤ 27
    → Zeros n (tables (take (n * n) (replicate 729 0)) (take (n * n) (replicate 729 0)) (take n (replicate 27 (pos 0))))
    (take (n * (2 * n + 10)) (replicate 1728 pos_zero)) (take (7 * n) (replicate 189 0))
cut-zeros {n} h =
    record {
      stay-is = front 0 (n * n) 729 (grind arith);
      moved-is = front 0 (n * n) 729 (grind arith);
      totals-is = front (pos 0) n 27 h;
      scratch-is = front pos_zero (n * (2 * n + 10)) 1728 (grind arith);
      model_is = front 0 (7 * n) 189 (omega arith);
    }
