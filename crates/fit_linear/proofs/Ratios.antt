-- Ratios (up − down) / over, alike where their cross products are equal: the operations of exact fractions, and that alike ratios have alike results.
use mathlib.Core.Path.{◌≡◌, refl, sym, ap, ◌∙◌}
use mathlib.Core.Bool.{Bool, true, false}
use mathlib.Core.Quot.{Quot}
use Prim.Native.Nat.{ℕ, zero, suc, ◌+◌, ◌*◌, ◌-◌, ◌<◌, ◌≤◌}
use native.Mathlib.Nat.{add_comm, mul-pos, mul-le-mul_right, le_of_mul-le-mul_right, suc-mul}
use native.Mathlib.Omega.{arith}
use lib.Dec.{leb}
use borrow.Author.Tests.{leb-true, leb-false}

pub record Ratio : Type 0 where
  pub up : ℕ
  pub down : ℕ
  pub over : ℕ
  pub some : 0 < over

abbrev pub Alike : Ratio → Ratio → Type 0
Alike x y = x.up * y.over + y.down * x.over ≡ y.up * x.over + x.down * y.over

abbrev pub Fraction : Type 0
Fraction = Quot Alike

-- ---- operations on ratios
abbrev pub plus : Ratio → Ratio → Ratio
plus x y =
    record {
      up = x.up * y.over + y.up * x.over;
      down = x.down * y.over + y.down * x.over;
      over = x.over * y.over;
      some = mul-pos x.some y.some;
    }

abbrev pub times : Ratio → Ratio → Ratio
times x y =
    record {
      up = x.up * y.up + x.down * y.down;
      down = x.up * y.down + x.down * y.up;
      over = x.over * y.over;
      some = mul-pos x.some y.some;
    }

abbrev pub less : Ratio → Ratio
less x = record { up = x.down; down = x.up; over = x.over; some = x.some }

abbrev pub whole : ℕ → Ratio
whole n = record { up = n; down = 0; over = 1; some = omega arith }

-- the size of the difference
abbrev pub gap : ℕ → ℕ → ℕ
gap u m = (u - m) + (m - u)

abbrev pub size_ratio : Ratio → Ratio
size_ratio x = record { up = gap x.up x.down; down = 0; over = x.over; some = x.some }

-- the square of a number, and 1 for 0
abbrev pub square : ℕ → ℕ
square g = g * g + (1 - g)

pub square-some : (g : ℕ) → 0 < square g
square-some zero = omega arith
square-some (suc g) = omega (arith, mul-pos (some-suc g) (some-suc g))
  where
    some-suc : (n : ℕ) → 0 < suc n
    some-suc n = omega arith

-- D (u − m) / (u − m)²
abbrev pub flip : Ratio → Ratio
flip x = record { up = x.over * x.up; down = x.over * x.down; over = square (gap x.up x.down); some = square-some (gap x.up x.down) }

-- ---- alike ratios have alike results
pub plus-left : (x x' y : Ratio) → Alike x x' → Alike (plus x y) (plus x' y)
plus-left x x' y h = omega (arith, ap (λ s. s * (y.over * y.over)) h)

pub plus-right : (x y y' : Ratio) → Alike y y' → Alike (plus x y) (plus x y')
plus-right x y y' h = omega (arith, ap (λ s. s * (x.over * x.over)) h)

pub times-left : (x x' y : Ratio) → Alike x x' → Alike (times x y) (times x' y)
times-left x x' y h = omega (arith, ap (λ s. s * (y.over * y.up)) h, ap (λ s. s * (y.over * y.down)) h)

pub times-right : (x y y' : Ratio) → Alike y y' → Alike (times x y) (times x y')
times-right x y y' h = omega (arith, ap (λ s. s * (x.over * x.up)) h, ap (λ s. s * (x.over * x.down)) h)

pub less-alike : (x y : Ratio) → Alike x y → Alike (less x) (less y)
less-alike x y h = omega (arith, h)

-- ---- sizes of alike ratios
half : (u m d v n e : ℕ) → 0 < d → m ≤ u → u * e + n * d ≡ v * d + m * e → (n ≤ v) × ((u - m) * e ≡ (v - n) * d)
half u m d v n e hd mu h = (nv, omega (arith, part, part'))
  where
    part : u * e ≡ (m + (u - m)) * e
    part = ap (λ s. s * e) (omega arith)

    nv : n ≤ v
    nv = le_of_mul-le-mul_right (omega (arith, part)) hd

    part' : v * d ≡ (n + (v - n)) * d
    part' = ap (λ s. s * d) (omega (arith, nv))

gap-alike : (x y : Ratio) → Alike x y → gap x.up x.down * y.over ≡ gap y.up y.down * x.over
gap-alike x y h = go (leb x.down x.up) refl
  where
    go : (b : Bool) → leb x.down x.up ≡ b → gap x.up x.down * y.over ≡ gap y.up y.down * x.over
    go true e =
        let q : x.down ≤ x.up = leb-true x.down x.up e in
        let k = half x.up x.down x.over y.up y.down y.over x.some q h in
        ap (λ s. s * y.over) (omega arith) ∙ k.1 ∙ ap (λ s. s * x.over) (omega (arith, k.0))
    go false e =
        let q : x.up < x.down = leb-false x.down x.up e in
        let k = half x.down x.up x.over y.down y.up y.over x.some (omega arith) (omega arith) in
        ap (λ s. s * y.over) (omega arith) ∙ k.1 ∙ ap (λ s. s * x.over) (omega (arith, k.0))

pub size-alike : (x y : Ratio) → Alike x y → Alike (size_ratio x) (size_ratio y)
size-alike x y h = omega (arith, gap-alike x y h)

leb-same : (a b c d : ℕ) → (a ≤ b → c ≤ d) → (c ≤ d → a ≤ b) → leb a b ≡ leb c d
leb-same a b c d f g = go (leb a b) refl (leb c d) refl
  where
    go : (p : Bool) → leb a b ≡ p → (q : Bool) → leb c d ≡ q → leb a b ≡ leb c d
    go true e true k = e ∙ sym k
    go false e false k = e ∙ sym k
    go true e false k =
        let h = f (leb-true a b e) in
        let l : d < c = leb-false c d k in
        absurd (omega arith)
    go false e true k =
        let h = g (leb-true c d k) in
        let l : b < a = leb-false a b e in
        absurd (omega arith)

-- ---- the order

abbrev pub le_ratio : Ratio → Ratio → Bool
le_ratio x y = leb (x.up * y.over + y.down * x.over) (y.up * x.over + x.down * y.over)

moved-left : (x x' y : Ratio) → Alike x x' → x.up * y.over + y.down * x.over ≤ y.up * x.over + x.down * y.over
    → x'.up * y.over + y.down * x'.over ≤ y.up * x'.over + x'.down * y.over
moved-left x x' y e h = le_of_mul-le-mul_right (omega (arith, mul-le-mul_right x'.over h, ap (λ s. s * y.over) e)) x.some

moved-right : (x y y' : Ratio) → Alike y y' → x.up * y.over + y.down * x.over ≤ y.up * x.over + x.down * y.over
    → x.up * y'.over + y'.down * x.over ≤ y'.up * x.over + x.down * y'.over
moved-right x y y' e h = le_of_mul-le-mul_right (omega (arith, mul-le-mul_right y'.over h, ap (λ s. s * x.over) e)) y.some

pub le_left : (x x' y : Ratio) → Alike x x' → le_ratio x y ≡ le_ratio x' y
le_left x x' y e = leb-same _ _ _ _ (moved-left x x' y e) (moved-left x' x y (sym e))

pub le_right : (x y y' : Ratio) → Alike y y' → le_ratio x y ≡ le_ratio x y'
le_right x y y' e = leb-same _ _ _ _ (moved-right x y y' e) (moved-right x y' y (sym e))

-- ---- the inverse
squares : (a d b e : ℕ) → 0 < d → 0 < e → a * e ≡ b * d → d * a * square b ≡ e * b * square a
squares zero d zero e hd he h = omega arith
squares zero d (suc b) e hd he h = absurd (omega (arith, suc-mul b d))
squares (suc a) d zero e hd he h = absurd (omega (arith, suc-mul a e))
squares (suc a) d (suc b) e hd he h =
    let f : 1 - suc b ≡ 0 = omega arith in
    let g : 1 - suc a ≡ 0 = omega arith in
    rw (f, g) (omega (arith, ap (λ s. s * (suc a * suc b)) h))

flip-half : (u m d v n e : ℕ) → 0 < d → 0 < e → m ≤ u → u * e + n * d ≡ v * d + m * e
    → d * u * square (gap v n) + e * n * square (gap u m) ≡ e * v * square (gap u m) + d * m * square (gap v n)
flip-half u m d v n e hd he mu h = rw (gu, gv) (omega (arith, squares (u - m) d (v - n) e hd he k.1, part, part'))
  where
    k : (n ≤ v) × ((u - m) * e ≡ (v - n) * d)
    k = half u m d v n e hd mu h

    gu : gap u m ≡ u - m
    gu = omega arith

    gv : gap v n ≡ v - n
    gv = omega (arith, k.0)

    part : u * (d * square (v - n)) ≡ (m + (u - m)) * (d * square (v - n))
    part = ap (λ s. s * (d * square (v - n))) (omega arith)

    part' : v * (e * square (u - m)) ≡ (n + (v - n)) * (e * square (u - m))
    part' = ap (λ s. s * (e * square (u - m))) (omega (arith, k.0))

pub flip-alike : (x y : Ratio) → Alike x y → Alike (flip x) (flip y)
flip-alike x y h = go (leb x.down x.up) refl
  where
    gaps : (u m : ℕ) → gap m u ≡ gap u m
    gaps u m = omega arith

    go : (b : Bool) → leb x.down x.up ≡ b → Alike (flip x) (flip y)
    go true e = flip-half x.up x.down x.over y.up y.down y.over x.some y.some (leb-true x.down x.up e) h
    go false e =
        let q : x.up < x.down = leb-false x.down x.up e in
        add_comm _ _
        ∙ sym (rw (gaps x.up x.down, gaps y.up y.down) at
        (flip-half x.down x.up x.over y.down y.up y.over x.some y.some (omega arith) (omega arith)))
        ∙ add_comm _ _
