-- Helpers on binary64: document 01, "Forms to change" (abs, max, clamp, total_cmp), "The fit" and "Domain". A float is the kit's `Float`, of lib.Ieee.
use Rattle.std.specs.Prelude.{ℕ, zero, suc, ◌*◌, ◌^◌, Bool, true, false, cond, ◌||◌, eqb, ℤ, pos}
use lib.Ieee.{Float, nan, inf, fin, binary64, div, lt, le, is_nan, of_int, of_bits}
use lib.Ieee as Ieee

-- ---- constants, by their bits

abbrev pub pos_zero : Float
pos_zero = of_bits binary64 0

abbrev pub neg_zero : Float
neg_zero = of_bits binary64 0x8000_0000_0000_0000

abbrev pub one : Float
one = of_bits binary64 0x3ff0_0000_0000_0000

abbrev pub two : Float
two = of_bits binary64 0x4000_0000_0000_0000

-- 1e-12, the float nearest to 1 / 10^12: the law tiny-is
abbrev pub tiny : Float
tiny = of_bits binary64 0x3d71_9799_812d_ea11

-- ---- sizes

-- the size of a float
unfoldable pub abs : Float → Float
abs nan = nan
abs (inf s) = inf false
abs (fin s m e) = fin false m e

-- of two sizes, the second is as great or greater: NaN above all and equal to any NaN
unfoldable pub as_great : Float → Float → Bool
unfolding le is_nan
as_great x y = is_nan y || le x y

-- the larger of two; NaN is passed over
unfoldable pub max : Float → Float → Float
unfolding lt
max nan y = y
max (inf s) y = cond (lt (inf s) y) y (inf s)
max (fin s m e) y = cond (lt (fin s m e) y) y (fin s m e)

unfoldable pub is_infinite : Float → Bool
is_infinite nan = false
is_infinite (inf s) = true
is_infinite (fin s m e) = false

-- clamped to 0..1; NaN stays
unfoldable pub clamp : Float → Float
unfolding lt of_bits
clamp x = cond (lt x pos_zero) pos_zero (cond (lt one x) one x)

-- zero as plus zero
unfoldable pub plus_zero : Float → Float
plus_zero nan = nan
plus_zero (inf s) = inf s
plus_zero (fin s zero e) = fin false zero e
plus_zero (fin s (suc m) e) = fin s (suc m) e

-- ---- bits, any NaN as 0x7ff8_0000_0000_0000

abbrev pub bits_of : Float → ℕ
bits_of x = Ieee.to_bits binary64 x

-- minus zero, by its bits
abbrev pub minus_zero : Float → Bool
minus_zero x = eqb (bits_of x) 0x8000_0000_0000_0000

-- every NaN pattern is NaN
abbrev pub from_bits : ℕ → Float
from_bits b = of_bits binary64 b

-- ---- whole numbers

-- whole numbers of up to this size are floats exactly
abbrev pub exact_whole : ℕ
exact_whole = 2 ^ 53

-- a whole number as a float: exact up to that size, by the law whole-exact
abbrev pub from_int : ℤ → Float
from_int z = of_int binary64 z

-- half of a number of units: exact below that size, by the law half-exact
unfoldable pub half : ℕ → Float
unfolding div of_int of_bits
half n = div binary64 (from_int (pos n)) two

-- tick / 2
abbrev pub half_tick : ℕ → Float
half_tick tick = half tick

-- tick × spread / 2, of a spread in ticks
abbrev pub half_spread : ℕ → ℕ → Float
half_spread tick spread = half (tick * spread)
