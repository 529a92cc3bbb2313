-- Pivots computed: the last of equals, NaN above all and equal to any NaN. Document 01, "The fit".
use Prim.Native.Nat.{ℕ}
use mathlib.Core.Path.{◌≡◌, refl}
use mathlib.Core.List.{List, [], ◌∷◌}
use lib.ListN.{get_or}
use lib.Ieee.{Float, nan, neg, le, is_nan, of_bits}
use Rattle.floats.specs.Floats.{pos_zero, one, abs, as_great}
use Rattle.fit_linear.specs.Arithmetic.{rounded}
use Rattle.fit_linear.specs.Elimination.{pivot_row}

-- a matrix whose columns are all this list
abbrev columns : List Float → ℕ → ℕ → Float
columns l r k = get_or l r pos_zero

-- sizes 1, 1 and 0: row 1
pub pivot-of-equals : pivot_row rounded (columns (one ∷ neg one ∷ pos_zero ∷ [])) 0 2 ≡ 1
unfolding pivot_row abs as_great neg le is_nan of_bits
pivot-of-equals = refl

-- NaN, 1, NaN and 1: row 2
pub pivot-of-nans : pivot_row rounded (columns (nan ∷ one ∷ nan ∷ one ∷ [])) 0 3 ≡ 2
unfolding pivot_row abs as_great neg le is_nan of_bits
pivot-of-nans = refl
