-- What the tests of the helpers say of a float.
use mathlib.Core.Path.{◌≡◌, refl, sym, ap, ◌∙◌}
use mathlib.Core.Bool.{Bool, true, false, ◌||◌, true≢false, false≢true}
use Prim.Native.Nat.{ℕ, zero, suc, ◌*◌, ◌<◌}
use native.Mathlib.Nat.{zero-mul, mul-pos, zero-lt-suc}
use native.Mathlib.Omega.{arith}
use borrow.Author.Tests.{eqb-true}
use lib.IntN.{ℤ, pos}
use lib.Dec.{T}
use lib.Ieee.{Float, nan, inf, fin, binary64, up, down, lt, eq, fits, of_bits, is_nan}
use lib.Ieee.Fits.{up_pos}
use lib.Ieee.Scale.{finite}
use Rattle.std.specs.Float.{float_with_sign, float_is_infinite, float_is_finite}
use Rattle.basics.proofs.Tests.{both}
use Rattle.floats.specs.Floats.{pos_zero, abs, max, is_infinite, plus_zero}
use Rattle.floats.proofs.Signs.{zero_exp}

-- ---- compared with zero

-- a size above 0, as a comparison with zero sees it
some : (m : ℕ) (e : ℤ) → 0 < suc m * up e * 1
some m e = mul-pos (mul-pos (zero-lt-suc m) (up_pos e)) (zero-lt-suc 0)

-- equal to 0: a zero of either sign
zero_is : (x : Float) → T (fits binary64 x) → eq x pos_zero ≡ true → (s : Bool) × (x ≡ fin s 0 (pos 0))
unfolding eq of_bits
zero_is nan p h = absurd (false≢true h)
zero_is (inf s) p h = absurd (false≢true h)
zero_is (fin s zero e) p h = (s, ap (fin s zero) (zero_exp binary64 s e p))
zero_is (fin s (suc m) e) p h =
    let q : suc m * up e * 1 ≡ 0 * 1 * down e = eqb-true _ _ (both _ _ h).0 in
    absurd (omega (arith, some m e, zero-mul (down e)))

pub plus-zero : (x : Float) → T (fits binary64 x) → eq x pos_zero ≡ true → pos_zero ≡ plus_zero x
unfolding plus_zero of_bits
plus-zero x p h = let z = zero_is x p h in rw z.1

pub plus-other : (x : Float) → eq x pos_zero ≡ false → x ≡ plus_zero x
unfolding plus_zero eq of_bits
plus-other nan h = refl
plus-other (inf s) h = refl
plus-other (fin true zero e) h = absurd (true≢false (sym (simp zero-mul) ∙ h))
plus-other (fin false zero e) h = absurd (true≢false (sym (simp zero-mul) ∙ h))
plus-other (fin s (suc m) e) h = refl

-- ---- as the library has them

pub abs_is : (x : Float) → float_with_sign false x ≡ abs x
unfolding abs float_with_sign
abs_is nan = refl
abs_is (inf s) = refl
abs_is (fin s m e) = refl

pub infinite_is : (x : Float) → float_is_infinite x ≡ is_infinite x
unfolding is_infinite float_is_infinite
infinite_is nan = refl
infinite_is (inf s) = refl
infinite_is (fin s m e) = refl

pub finite_is : (x : Float) → float_is_finite x ≡ finite x
unfolding float_is_finite
finite_is nan = refl
finite_is (inf s) = refl
finite_is (fin s m e) = refl

-- ---- the larger of two

pub max_second : (x y : Float) → (is_nan x || lt x y) ≡ true → y ≡ max x y
unfolding max is_nan
max_second nan y h = refl
max_second (inf s) y h = rw h
max_second (fin s m e) y h = rw h

pub max_first : (x y : Float) → (is_nan x || lt x y) ≡ false → x ≡ max x y
unfolding max is_nan
max_first nan y h = absurd (true≢false h)
max_first (inf s) y h = rw h
max_first (fin s m e) y h = rw h
