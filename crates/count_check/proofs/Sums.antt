-- Sums of a list from a place on.
use Prim.Native.Nat.{ℕ, zero, suc, ◌+◌, ◌-◌, ◌≤◌, ◌<◌, ◌^◌, min}
use mathlib.Core.Path.{◌≡◌, ap, ◌∙◌}
use mathlib.Core.List.{List}
use native.Mathlib.Omega.{arith}
use native.Mathlib.Numerals.{add-one}
use lib.ListN.{length, get_or, drop, drop_of_length-le}
use lib.Seq.{drop-cons}
use Rattle.std.specs.List.{fold, range_with_len}
use Rattle.basics.specs.Lists.{sum}

sum-drop : (l : List ℕ) (i : ℕ) → i < length l → sum (drop i l) ≡ get_or l i 0 + sum (drop (i + 1) l)
sum-drop l i h = rw (add-one, drop-cons l i 0 h)

sum-end : (l : List ℕ) (i : ℕ) → length l ≤ i → sum (drop i l) ≡ 0
sum-end l i h = ap sum (drop_of_length-le l h)

-- s and element k, or the greatest word where that is more
abbrev pub added : List ℕ → ℕ → ℕ → ℕ
added l s k = min (2 ^ 64 - 1) (s + get_or l k 0)

-- a and the elements from i on, added one by one
pub added-sum : (l : List ℕ) (i n a : ℕ) → length l ≡ i + n → a < 2 ^ 64 → fold (added l) a (range_with_len i n) ≡ min (2 ^ 64 - 1) (a + sum (drop i l))
added-sum l i zero a e h = omega (arith, sum-end l i (omega arith))
added-sum l i (suc n) a e h =
    added-sum l (i + 1) n (added l a i) (omega arith) (omega arith) ∙ omega (arith, sum-drop l i (omega arith))
