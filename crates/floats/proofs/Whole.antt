-- Whole numbers up to 2^53 of either sign, and half of those below, are floats exactly. The constant 1e-12.
use mathlib.Core.Path.{◌≡◌, refl, sym, ap, ◌∙◌}
use mathlib.Core.Bool.{Bool, true, false, true≢false}
use Prim.Native.Nat.{ℕ, suc, ◌*◌, ◌^◌, ◌<◌}
use native.Mathlib.Nat.{mul-one, mul-pos, zero-lt-suc, mul_assoc, mul_left_comm, mul-lt-mul_of_pos_right, lt_of_lt_of_le}
use native.Mathlib.Omega.{arith}
use borrow.Author.Tests.{leb-true, ltb-true}
use lib.IntN.{ℤ, pos, negsuc, nat_abs}
use lib.Pow.{pow_pos}
use lib.Dec.{lit≤}
use lib.Ieee.{Float, nan, inf, fin, binary64, up, down, div, round, of_bits, of_int, in_float}
use lib.Ieee.Fits.{down_pos}
use lib.Ieee.Exact.{HasValue, round_exact}
use lib.Ieee.Back.{round_whole}
use lib.Ieee.Scale.{round_same}
use Rattle.floats.specs.Floats.{tiny, two, from_int, half, exact_whole}

pub tiny-is : tiny ≡ round binary64 false 1 1000000000000
unfolding of_bits round
tiny-is = refl

-- the sign of a whole number
abbrev pub sign_of : ℤ → Bool
sign_of (pos n) = false
sign_of (negsuc n) = true

pub whole-exact : (z : ℤ) → in_float binary64 z ≡ true → HasValue (from_int z) (sign_of z) (nat_abs z) 1
unfolding in_float of_int
whole-exact (pos n) h = round_whole binary64 false n (leb-true n exact_whole h)
whole-exact (negsuc n) h = round_whole binary64 true (suc n) (ltb-true n exact_whole h)

halved : (x : Float) (a c : ℕ) → 0 < c → HasValue x false a c → div binary64 x two ≡ round binary64 false a (2 * c)
unfolding div of_bits
halved nan a c C v = absurd v
halved (inf s) a c C v = absurd v
halved (fin true m e) a c C v = absurd (true≢false v.0)
halved (fin false m e) a c C v =
    round_same binary64 false (m * up e * 1) (2 * down e) a (2 * c) (mul-pos (zero-lt-suc 1) (down_pos e)) (mul-pos (zero-lt-suc 1) C)
    (ap (λ (z : ℕ). z * (2 * c)) (mul-one (m * up e)) ∙ mul_left_comm (m * up e) 2 c ∙ ap (λ (z : ℕ). 2 * z) v.1 ∙ mul_left_comm 2 a (down e))

pub half-exact : (n : ℕ) → n < exact_whole → HasValue (half n) false n 2
unfolding half of_int
half-exact n h =
    rw (halved (from_int (pos n)) n 1 (zero-lt-suc 0) (round_whole binary64 false n (omega arith)))
    (round_exact binary64 false n 2 n 1073 (zero-lt-suc 1) h
    (lt_of_lt_of_le (mul-lt-mul_of_pos_right h (pow_pos 1073)) (lit≤ tt))
    (sym (mul_assoc n (2 ^ 1073) 2)))
