-- Sums of signed words: their sizes, that they fit, and what they are.
use Prim.Native.Nat.{ℕ, zero, suc, ◌+◌, ◌^◌, ◌≤◌, ◌<◌}
use mathlib.Core.Path.{◌≡◌, refl, ap}
use mathlib.Core.Bool.{Bool, true, false, cond}
use native.Mathlib.Omega.{arith}
use lib.Dec.{ltb}
use lib.IntN.{ℤ, pos, negsuc, neg_ℤ, nat_abs, ◌+ℤ◌, ◌-ℤ◌, +ℤ-neg_ℤ_cancel}
use lib.Signed.{mag}
use mir.Syntax.{w64}
use mir.Val.{SFits, to_z, of_z}
use mir.Facts.{to_z-of_z}
use borrow.Author.Tests.{leb-true}
use Rattle.basics.specs.Domain.{cell_limit}
use Rattle.tally.specs.Totals.{change, within}

size-cond : (t : Bool) (x y : ℤ) (n : ℕ) → nat_abs x ≤ n → nat_abs y ≤ n → nat_abs (cond t x y) ≤ n
size-cond true x y n p q = p
size-cond false x y n p q = q

pub size-add : (a b : ℤ) → nat_abs (a +ℤ b) ≤ nat_abs a + nat_abs b
size-add (pos a) (pos b) = omega arith
size-add (pos a) (negsuc b) = size-cond (ltb a (suc b)) _ _ _ (omega arith) (omega arith)
size-add (negsuc a) (pos b) = size-cond (ltb b (suc a)) _ _ _ (omega arith) (omega arith)
size-add (negsuc a) (negsuc b) = omega arith

pub size-neg : (a : ℤ) → nat_abs (neg_ℤ a) ≡ nat_abs a
size-neg (pos zero) = refl
size-neg (pos (suc n)) = refl
size-neg (negsuc n) = refl

-- a summand is bounded by the sum and the other summand
pub size-part : (a b : ℤ) → nat_abs a ≤ nat_abs (a +ℤ b) + nat_abs b
size-part a b =
    let e : (a +ℤ b) +ℤ neg_ℤ b ≡ a = +ℤ-neg_ℤ_cancel a b in
    omega (arith, size-add (a +ℤ b) (neg_ℤ b), size-neg b, ap nat_abs e)

mag-le : (z : ℤ) → mag z ≤ nat_abs z
mag-le (pos n) = omega arith
mag-le (negsuc n) = omega arith

-- a number that a word holds is read back from its bits
pub back : (z : ℤ) → mag z < 2 ^ 63 → to_z w64 (of_z w64 z) ≡ z
back z h = to_z-of_z {w = w64} {z = z} (record { sfits = h })

pub change-size : (a b : ℕ) → nat_abs (change a b) ≤ a + b
change-size a b = omega (arith, size-add (pos b) (neg_ℤ (pos a)), size-neg (pos a))

-- a change that is added to a total far from the ends of its word, or taken from it, as code does it
module _ (total d : ℤ) (h : nat_abs total < 2 ^ 60) (s : nat_abs d ≤ 2 ^ 40) where
  total-back : to_z w64 (of_z w64 total) ≡ total
  total-back = back total (omega (arith, mag-le total))

  change-back : to_z w64 (of_z w64 d) ≡ d
  change-back = back d (omega (arith, mag-le d))

  sum-mag : (x : ℤ) → nat_abs x ≡ nat_abs d → mag (total +ℤ x) < 2 ^ 63
  sum-mag x e = omega (arith, size-add total x, mag-le (total +ℤ x))

  pub sum_is : to_z w64 (of_z w64 (to_z w64 (of_z w64 total) +ℤ to_z w64 (of_z w64 d))) ≡ total +ℤ d
  sum_is = rw (total-back, change-back) (back (total +ℤ d) (sum-mag d refl))

  pub difference_fits : SFits w64 (to_z w64 (of_z w64 total) -ℤ to_z w64 (of_z w64 d))
  difference_fits = rw (total-back, change-back) (record { sfits = sum-mag (neg_ℤ d) (size-neg d) })

  pub difference_is : to_z w64 (of_z w64 (to_z w64 (of_z w64 total) -ℤ to_z w64 (of_z w64 d))) ≡ total +ℤ neg_ℤ d
  difference_is = rw (total-back, change-back) (back (total +ℤ neg_ℤ d) (sum-mag (neg_ℤ d) (size-neg d)))

pub within-size : (z : ℤ) → within z ≡ true → nat_abs z ≤ cell_limit
within-size z e = leb-true (nat_abs z) cell_limit e
