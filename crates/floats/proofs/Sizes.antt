-- The order of sizes, NaN above all and equal to any NaN: of any two one is as great as the other, and the order carries over.
use mathlib.Core.Path.{◌≡◌, refl, sym, subst}
use mathlib.Core.Bool.{true, false, not, true≢false, false≢true}
use lib.Dec.{T}
use lib.Ieee.{Float, nan, inf, fin, lt, le, eq, is_nan}
use lib.Ieee.Bits.{is_true}
use Rattle.basics.proofs.Tests.{neither}
use Rattle.floats.specs.Floats.{as_great}
use Rattle.floats.proofs.Order.{le-trans-float, not-below}

-- of two that are no NaN
le_total : (x y : Float) → T (not (is_nan x)) → T (not (is_nan y)) → le x y ≡ false → le y x ≡ true
le_total x y p q h = is_true (le y x) (not-below x y p q (neither (lt x y) (eq x y) (unfold le in h)).0)

pub great-total : (x y : Float) → as_great x y ≡ false → as_great y x ≡ true
unfolding as_great is_nan
great-total nan y h = refl
great-total (inf s) nan h = absurd (true≢false h)
great-total (inf s) (inf t) h = le_total (inf s) (inf t) tt tt h
great-total (inf s) (fin t n d) h = le_total (inf s) (fin t n d) tt tt h
great-total (fin s m e) nan h = absurd (true≢false h)
great-total (fin s m e) (inf t) h = le_total (fin s m e) (inf t) tt tt h
great-total (fin s m e) (fin t n d) h = le_total (fin s m e) (fin t n d) tt tt h

trans : (x y z : Float) → le x y ≡ true → le y z ≡ true → le x z ≡ true
trans x y z h k = is_true (le x z) (le-trans-float x y z (subst T (sym h) tt) (subst T (sym k) tt))

nan-below : (z : Float) → le nan z ≡ true → ⊥
unfolding le
nan-below z h = false≢true h

pub great-trans : (x y z : Float) → as_great x y ≡ true → as_great y z ≡ true → as_great x z ≡ true
unfolding as_great is_nan
great-trans x y nan h k = refl
great-trans x nan (inf u) h k = absurd (nan-below (inf u) k)
great-trans x nan (fin u p g) h k = absurd (nan-below (fin u p g) k)
great-trans x (inf t) (inf u) h k = trans x (inf t) (inf u) h k
great-trans x (inf t) (fin u p g) h k = trans x (inf t) (fin u p g) h k
great-trans x (fin t n d) (inf u) h k = trans x (fin t n d) (inf u) h k
great-trans x (fin t n d) (fin u p g) h k = trans x (fin t n d) (fin u p g) h k
