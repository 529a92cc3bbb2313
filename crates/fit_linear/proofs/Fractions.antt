-- Exact fractions are a field with a decidable zero, so elimination of fractions solves its equations.
use mathlib.Core.Path.{◌≡◌, refl, sym, ap, ◌∙◌, subst}
use mathlib.Core.Logic.{◌≢◌, ◌↔◌}
use mathlib.Core.Bool.{Bool, true, false, not, ◌&&◌, cond, Bool-set}
use mathlib.Core.HLevel.{Π_prop}
use mathlib.Core.Quot.{mk, sound, Quot-set, lift, ind}
use Prim.Native.Nat.{ℕ, zero, suc, ◌+◌, ◌*◌, ◌-◌, ◌<◌, ◌≤◌}
use native.Mathlib.Omega.{arith}
use lib.Dec.{eqb, leb}
use borrow.Author.Tests.{eqb-true, eqb-false, leb-true, leb-false}
use Rattle.basics.proofs.Tests.{both}
use Rattle.fit_linear.specs.Arithmetic.{Arith}
use Rattle.fit_linear.specs.Elimination.{solved, matrix_of, gauss_jordan, columns_solved, column_solved, pivot_row, swapped, reduced, cleared}
use Rattle.fit_linear.specs.Exact.{IsExact, unit, Solves}
use Rattle.fit_linear.proofs.Exact.{solved-units, solved-solves}
use Rattle.fit_linear.proofs.Ratios.{Ratio, Alike, Fraction, plus, times, less, whole, gap, square, flip, size_ratio, le_ratio, plus-left, plus-right, times-left, times-right, less-alike, size-alike, le_left, le_right, flip-alike}

abbrev pub frac : Ratio → Fraction
frac x = mk x

-- a function of two ratios that alike ratios do not change, of two fractions
module _ {C : Type 0} (set : IsSet C) (f : Ratio → Ratio → C) (left : (x x' y : Ratio) → Alike x x' → f x y ≡ f x' y)
    (right : (x y y' : Ratio) → Alike y y' → f x y ≡ f x y') where
  abbrev pub lifted : Fraction → Fraction → C
  lifted x y =
      lift {r = Alike} set (λ a. lift {r = Alike} set (λ b. f a b) (λ b b' h. right a b b' h) y)
      (λ a a' h. ind {r = Alike}
      {β = λ y. lift {r = Alike} set (λ b. f a b) (λ b b' h. right a b b' h) y ≡ lift {r = Alike} set (λ b. f a' b) (λ b b' h. right a' b b' h) y}
      (λ y. set _ _) (λ b. left a a' b h) y)
      x

abbrev pub ◌⊞◌ : Fraction → Fraction → Fraction
◌⊞◌ = lifted Quot-set (λ x y. frac (plus x y)) (λ x x' y h. sound (plus-left x x' y h)) (λ x y y' h. sound (plus-right x y y' h))

abbrev pub ◌⊠◌ : Fraction → Fraction → Fraction
◌⊠◌ = lifted Quot-set (λ x y. frac (times x y)) (λ x x' y h. sound (times-left x x' y h)) (λ x y y' h. sound (times-right x y y' h))

abbrev pub minus : Fraction → Fraction
minus = lift Quot-set (λ x. frac (less x)) (λ x y h. sound (less-alike x y h))

abbrev pub inverse : Fraction → Fraction
inverse = lift Quot-set (λ x. frac (flip x)) (λ x y h. sound (flip-alike x y h))

abbrev pub size_of : Fraction → Fraction
size_of = lift Quot-set (λ x. frac (size_ratio x)) (λ x y h. sound (size-alike x y h))

abbrev pub leq : Fraction → Fraction → Bool
leq = lifted Bool-set le_ratio le_left le_right

-- 1e-12
abbrev tolerance : Fraction
tolerance = frac (record { up = 1; down = 0; over = 1000000000000; some = omega arith })

-- the arithmetic of exact fractions, with the tests of the rounded one
abbrev pub exact : Arith
exact =
    record {
      Num = Fraction;
      𝟘 = frac (whole 0);
      𝟙 = frac (whole 1);
      neg = minus;
      ◌⊕◌ = ◌⊞◌;
      ◌⊖◌ = λ x y. ◌⊞◌ x (minus y);
      ◌⊗◌ = ◌⊠◌;
      ◌⊘◌ = λ x y. ◌⊠◌ x (inverse y);
      start = frac (whole 0);
      size = size_of;
      as_great = leq;
      max = λ x y. cond (leq x y) y x;
      is_zero = λ x. leq x (frac (whole 0)) && leq (frac (whole 0)) x;
      is_infinite = λ x. false;
      is_tiny = λ x. not (leq tolerance x);
      clamp = λ x. cond (leq x (frac (whole 0))) (frac (whole 0)) (cond (leq (frac (whole 1)) x) (frac (whole 1)) x);
    }

-- ---- an equation of fractions is shown on ratios
eq1 : (f g : Fraction → Fraction) → ((a : Ratio) → f (frac a) ≡ g (frac a)) → (x : Fraction) → f x ≡ g x
eq1 f g h = ind {β = λ x. f x ≡ g x} (λ x. Quot-set (f x) (g x)) h

eq2 : (f g : Fraction → Fraction → Fraction) → ((a b : Ratio) → f (frac a) (frac b) ≡ g (frac a) (frac b)) → (x y : Fraction) → f x y ≡ g x y
eq2 f g h x y = eq1 (λ x. f x y) (λ x. g x y) (λ a. eq1 (f (frac a)) (g (frac a)) (h a) y) x

eq3 : (f g : Fraction → Fraction → Fraction → Fraction) → ((a b c : Ratio) → f (frac a) (frac b) (frac c) ≡ g (frac a) (frac b) (frac c)) → (x y z : Fraction)
    → f x y z ≡ g x y z
eq3 f g h x y z = eq1 (λ x. f x y z) (λ x. g x y z) (λ a. eq2 (f (frac a)) (g (frac a)) (h a) y z) x

alike : (a b : Ratio) → Alike a b → frac a ≡ frac b
alike a b h = sound h

infixl 65 ◌⊞◌
infixl 70 ◌⊠◌
pub ⊞-comm : (x y : Fraction) → x ⊞ y ≡ y ⊞ x
⊞-comm = eq2 (λ x y. x ⊞ y) (λ x y. y ⊞ x) (λ a b. alike (plus a b) (plus b a) (omega arith))

pub ⊞-assoc : (x y z : Fraction) → x ⊞ y ⊞ z ≡ x ⊞ (y ⊞ z)
⊞-assoc = eq3 (λ x y z. x ⊞ y ⊞ z) (λ x y z. x ⊞ (y ⊞ z)) (λ a b c. alike (plus (plus a b) c) (plus a (plus b c)) (omega arith))

pub ⊞-zero : (x : Fraction) → x ⊞ frac (whole 0) ≡ x
⊞-zero = eq1 (λ x. x ⊞ frac (whole 0)) (λ x. x) (λ a. alike (plus a (whole 0)) a (omega arith))

pub ⊞-minus : (x : Fraction) → x ⊞ minus x ≡ frac (whole 0)
⊞-minus = eq1 (λ x. x ⊞ minus x) (λ x. frac (whole 0)) (λ a. alike (plus a (less a)) (whole 0) (omega arith))

pub ⊠-comm : (x y : Fraction) → x ⊠ y ≡ y ⊠ x
⊠-comm = eq2 (λ x y. x ⊠ y) (λ x y. y ⊠ x) (λ a b. alike (times a b) (times b a) (omega arith))

pub ⊠-assoc : (x y z : Fraction) → x ⊠ y ⊠ z ≡ x ⊠ (y ⊠ z)
⊠-assoc = eq3 (λ x y z. x ⊠ y ⊠ z) (λ x y z. x ⊠ (y ⊠ z)) (λ a b c. alike (times (times a b) c) (times a (times b c)) (omega arith))

pub ⊠-one : (x : Fraction) → x ⊠ frac (whole 1) ≡ x
⊠-one = eq1 (λ x. x ⊠ frac (whole 1)) (λ x. x) (λ a. alike (times a (whole 1)) a (omega arith))

-- a ratio and the same with all three numbers times k
scaled : (u m d v n e k : ℕ) → v ≡ u * k → n ≡ m * k → e ≡ d * k → u * e + n * d ≡ v * d + m * e
scaled u m d v n e k hv hn he = rw (hv, hn, he) (omega arith)

pub ⊠-⊞ : (x y z : Fraction) → x ⊠ (y ⊞ z) ≡ x ⊠ y ⊞ x ⊠ z
⊠-⊞ =
    eq3 (λ x y z. x ⊠ (y ⊞ z)) (λ x y z. x ⊠ y ⊞ x ⊠ z)
    (λ a b c. alike (times a (plus b c)) (plus (times a b) (times a c)) (scaled _ _ _ _ _ _ a.over (omega arith) (omega arith) (omega arith)))

ordered : (x y : Ratio) → le_ratio x y ≡ true → x.up * y.over + y.down * x.over ≤ y.up * x.over + x.down * y.over
ordered x y e = leb-true _ _ e

pub zero_is : (x : Fraction) → exact.is_zero x ≡ true → x ≡ frac (whole 0)
zero_is =
    ind {β = λ x. exact.is_zero x ≡ true → x ≡ frac (whole 0)} (λ x. Π_prop (λ h. Quot-set x (frac (whole 0))))
    (λ a h. let t = both (le_ratio a (whole 0)) (le_ratio (whole 0) a) h in
    alike a (whole 0) (omega (arith, ordered a (whole 0) t.0, ordered (whole 0) a t.1)))

-- one number more than the other by a, not 0
flip_up : (m a d : ℕ) → 0 < a
    → ((m + a) * (d * (m + a)) + m * (d * m)) * 1 + 0 * (d * square (gap (m + a) m)) ≡ 1 * (d * square (gap (m + a) m)) +
    ((m + a) * (d * m) + m * (d * (m + a))) * 1
flip_up m a d h = rw (g, no) (omega arith)
  where
    g : gap (m + a) m ≡ a
    g = omega arith

    no : 1 - a ≡ 0
    no = omega arith

flip_one : (u m d : ℕ) → m < u → (u * (d * u) + m * (d * m)) * 1 + 0 * (d * square (gap u m)) ≡ 1 * (d * square (gap u m)) + (u * (d * m) + m * (d * u)) * 1
flip_one u m d h =
    let e : m + (u - m) ≡ u = omega arith in
    subst (λ (u : ℕ). (u * (d * u) + m * (d * m)) * 1 + 0 * (d * square (gap u m)) ≡ 1 * (d * square (gap u m)) + (u * (d * m) + m * (d * u)) * 1) e
    (flip_up m (u - m) d (omega arith))

pub ⊠-inverse : (x : Fraction) → x ≢ frac (whole 0) → x ⊠ inverse x ≡ frac (whole 1)
⊠-inverse =
    ind {β = λ x. x ≢ frac (whole 0) → x ⊠ inverse x ≡ frac (whole 1)} (λ x. Π_prop (λ h. Quot-set (x ⊠ inverse x) (frac (whole 1))))
    (λ a h. alike (times a (flip a)) (whole 1) (at a h))
  where
    at : (a : Ratio) → frac a ≢ frac (whole 0) → Alike (times a (flip a)) (whole 1)
    at a h = go (eqb a.up a.down) refl (leb a.up a.down) refl
      where
        u : ℕ
        u = a.up

        m : ℕ
        m = a.down

        d : ℕ
        d = a.over

        gaps : gap m u ≡ gap u m
        gaps = omega arith

        go : (b : Bool) → eqb u m ≡ b → (c : Bool) → leb u m ≡ c → Alike (times a (flip a)) (whole 1)
        go true e c f = absurd (h (alike a (whole 0) (omega (arith, eqb-true u m e))))
        go false e true f =
            let ne = eqb-false u m e in
            let q : m ≡ u → ⊥ = λ s. ne (sym s) in
            let le : u ≤ m = leb-true u m f in
            let k : (m * (d * m) + u * (d * u)) * 1 + 0 * (d * square (gap u m)) ≡ 1 * (d * square (gap u m)) + (m * (d * u) + u * (d * m)) * 1 =
            rw gaps at (flip_one m u d (omega arith)) in
            omega arith
        go false e false f = flip_one u m d (leb-false u m f)

pub one-⊠ : (x : Fraction) → frac (whole 1) ⊠ x ≡ x
one-⊠ x = ⊠-comm (frac (whole 1)) x ∙ ⊠-one x

pub exact-is : IsExact exact
exact-is =
    record {
      ⊕-comm = ⊞-comm;
      ⊕-assoc = ⊞-assoc;
      ⊕-zero = ⊞-zero;
      ⊕-neg = ⊞-minus;
      ⊗-comm = ⊠-comm;
      ⊗-assoc = ⊠-assoc;
      ⊗-one = ⊠-one;
      ⊗-⊕ = ⊠-⊞;
      ⊗-inverse = λ a h. ap (λ s. a ⊠ s) (one-⊠ (inverse a)) ∙ ⊠-inverse a h;
      ⊖-is = λ a b. refl;
      ⊘-is = λ a b. ap (λ s. a ⊠ s) (sym (one-⊠ (inverse b)));
      zero-known = zero_is;
      zero-tiny = refl;
    }

-- ---- elimination of fractions: the identity on the left, on the right the one solution

pub fractions-units : (n : ℕ) (A B : ℕ → ℕ → Fraction) → gauss_jordan exact n A ≡ solved B → (r k : ℕ) → r < n → k < n → B r k ≡ unit exact r k
fractions-units = solved-units exact exact-is

pub fractions-solve : (n : ℕ) (A B : ℕ → ℕ → Fraction) → gauss_jordan exact n A ≡ solved B → (j : ℕ) (x : ℕ → Fraction)
    → Solves exact n A j x ↔ ((r : ℕ) → r < n → x r ≡ B r j)
fractions-solve = solved-solves exact exact-is

-- ---- x + y = 3 and x − y = 1, solved by the definition itself: x = 2 and y = 1

pub example : ℕ → ℕ → Fraction
example zero zero = frac (whole 1)
example zero (suc zero) = frac (whole 1)
example zero (suc (suc k)) = frac (whole 3)
example (suc r) zero = frac (whole 1)
example (suc r) (suc zero) = frac (less (whole 1))
example (suc r) (suc (suc k)) = frac (whole 1)

pub example-solved : (matrix_of (gauss_jordan exact 2 example) 0 2 ≡ frac (whole 2)) × (matrix_of (gauss_jordan exact 2 example) 1 2 ≡ frac (whole 1))
unfolding example columns_solved column_solved pivot_row swapped reduced cleared
example-solved = (sound refl, sound refl)
