-- The order of floats, negative ones too: rounding and addition keep it.
use mathlib.Core.Path.{◌≡◌, refl, sym, ap, ◌∙◌, subst}
use mathlib.Core.Logic.{◌⊎◌, inl, inr}
use mathlib.Core.Bool.{Bool, true, false, not, ◌&&◌, ◌||◌, cond, beq, true≢false}
use Prim.Native.Nat.{ℕ, zero, suc, ◌+◌, ◌-◌, ◌*◌, ◌<◌, ◌≤◌}
use native.Mathlib.Nat.{zero-mul, mul-pos, lt_irrefl, zero-lt-suc, mul_comm, mul_assoc, mul_right_comm, le_refl, mul-le-mul_right, add-mul, mul-sub, mul-lt-mul_of_pos_right}
use native.Mathlib.Omega.{arith}
use borrow.Author.Tests.{ltb-false, le-ltb, lt-ltb}
use lib.IntN.{ℤ, pos}
use lib.Dec.{T, ltb, eqb, eqb→eq, ltb→lt, lt→ltb}
use lib.Ieee.{Float, nan, inf, fin, Format, up, down, neg, add, sum, round, lt, le, is_nan, below, level}
use lib.Ieee.Fits.{and_l, and_r, and_i, eq→eqb, down_pos}
use lib.Ieee.Scale.{finite, round_same}
use lib.Ieee.Order.{round_mono}
use lib.Ieee.Positive.{through}
use Rattle.floats.proofs.Signs.{neg-round, round-zero, sum_like, sum_less, sum_more, sum_same, Three, less, same, more, three}

-- ---- a number ±a, as what is above zero and what is below

abbrev pub above-part : Bool → ℕ → ℕ
above-part false a = a
above-part true a = 0

abbrev pub below-part : Bool → ℕ → ℕ
below-part false a = 0
below-part true a = a

-- ±a ≤ ±b
abbrev pub SLe : Bool → ℕ → Bool → ℕ → Type 0
SLe s a t b = above-part s a + below-part t b ≤ above-part t b + below-part s a

or_split : (a b : Bool) → T (a || b) → T a ⊎ T b
or_split true b t = inl tt
or_split false b t = inr t

or_l : (a b : Bool) → T a → T (a || b)
or_l true b t = tt
or_l false b t = absurd t

or_r : (a b : Bool) → T b → T (a || b)
or_r true b t = tt
or_r false b t = t

-- the kit's comparison of ±a and ±b
abbrev leq : Bool → ℕ → Bool → ℕ → Bool
leq s a t b = below s a t b || level s a t b

to : (s : Bool) (a : ℕ) (t : Bool) (b : ℕ) → T (leq s a t b) → SLe s a t b
to false a false b h =
    elim (or_split (ltb a b) (level false a false b) h) [
      | inl u ↦ let k : a < b = ltb→lt a b u in omega arith
      | inr u ↦ let k : a ≡ b = eqb→eq a b (and_l (eqb a b) true u) in omega arith
    ]
to false a true b h =
    let e : a ≡ b = eqb→eq a b (and_l (eqb a b) (eqb a 0) h) in
    let z : a ≡ 0 = eqb→eq a 0 (and_r (eqb a b) (eqb a 0) h) in
    omega arith
to true a false b h = omega arith
to true a true b h =
    elim (or_split (ltb b a) (level true a true b) h) [
      | inl u ↦ let k : b < a = ltb→lt b a u in omega arith
      | inr u ↦ let k : a ≡ b = eqb→eq a b (and_l (eqb a b) true u) in omega arith
    ]

from : (s : Bool) (a : ℕ) (t : Bool) (b : ℕ) → SLe s a t b → T (leq s a t b)
from false a false b h = go (three a b)
  where
    go : Three a b → T (leq false a false b)
    go (less k) = or_l (ltb a b) _ (lt→ltb a b k)
    go (same k) = or_r (ltb a b) _ (and_i (eqb a b) true (eq→eqb k) tt)
    go (more k) = absurd (omega arith)
from false a true b h = and_i (eqb a b) (eqb a 0) (eq→eqb {a = a} {b = b} (omega arith)) (eq→eqb {a = a} {b = 0} (omega arith))
from true a false b h = go (three 0 (a + b))
  where
    go : Three 0 (a + b) → T (leq true a false b)
    go (less p) = or_l (ltb 0 (a + b)) _ (lt→ltb 0 (a + b) p)
    go (same z) = or_r (ltb 0 (a + b)) _ (and_i (eqb a b) (eqb a 0) (eq→eqb {a = a} {b = b} (omega arith)) (eq→eqb {a = a} {b = 0} (omega arith)))
    go (more p) = absurd (omega arith)
from true a true b h = go (three b a)
  where
    go : Three b a → T (leq true a true b)
    go (less k) = or_l (ltb b a) _ (lt→ltb b a k)
    go (same k) = or_r (ltb b a) _ (and_i (eqb a b) true (eq→eqb (sym k)) tt)
    go (more k) = absurd (omega arith)

-- of two finite floats, by their sizes over a common denominator
pub le→sizes : (s t : Bool) (m n : ℕ) (e d : ℤ) → T (le (fin s m e) (fin t n d)) → SLe s (m * up e * down d) t (n * up d * down e)
unfolding le
le→sizes s t m n e d h = to s (m * up e * down d) t (n * up d * down e) h

pub sizes→le : (s t : Bool) (m n : ℕ) (e d : ℤ) → SLe s (m * up e * down d) t (n * up d * down e) → T (le (fin s m e) (fin t n d))
unfolding le
sizes→le s t m n e d h = from s (m * up e * down d) t (n * up d * down e) h

-- ---- three fractions ±x / p, ±y / q, ±z / r

factor-zero : (x q : ℕ) → 0 < q → x * q ≡ 0 → x ≡ 0
factor-zero zero q Q h = refl
factor-zero (suc x) q Q h = absurd (lt_irrefl 0 (subst (λ (k : ℕ). 0 < k) h (mul-pos (zero-lt-suc x) Q)))

-- where one of two factors is zero
gone : (x q r : ℕ) → 0 < q → x * q ≡ 0 → x * r ≡ 0
gone x q r Q h = rw (factor-zero x q Q h) (zero-mul r)

sle-trans : (s t u : Bool) (x y z p q r : ℕ) → 0 < p → 0 < q → 0 < r → SLe s (x * q) t (y * p) → SLe t (y * r) u (z * q) → SLe s (x * r) u (z * p)
sle-trans false false false x y z p q r P Q R h k = omega (arith, through x y z p q r Q (omega arith) (omega arith))
sle-trans false false true x y z p q r P Q R h k =
    let y0 : y * p ≡ 0 = gone y r p R (omega arith) in
    omega (arith, gone x q r Q (omega arith), gone z q p Q (omega arith))
sle-trans false true false x y z p q r P Q R h k = omega (arith, gone x q r Q (omega arith))
sle-trans false true true x y z p q r P Q R h k =
    let y0 : y * r ≡ 0 = gone y p r P (omega arith) in
    omega (arith, gone x q r Q (omega arith), gone z q p Q (omega arith))
sle-trans true t false x y z p q r P Q R h k = omega arith
sle-trans true false true x y z p q r P Q R h k = omega (arith, gone z q p Q (omega arith))
sle-trans true true true x y z p q r P Q R h k = omega (arith, through z y x r q p Q (omega arith) (omega arith))

from-inf : (t : Bool) → T (le (inf t) nan) → ⊥
unfolding le
from-inf t h = h

-- where an infinity or a NaN stands, the comparison computes from the signs
pub le-trans-float : (x y z : Float) → T (le x y) → T (le y z) → T (le x z)
unfolding le
le-trans-float nan y z h k = absurd h
le-trans-float (inf true) nan z h k = absurd h
le-trans-float (inf true) (inf t) nan h k = absurd (from-inf t k)
le-trans-float (inf true) (inf t) (inf true) h k = tt
le-trans-float (inf true) (inf t) (inf false) h k = tt
le-trans-float (inf true) (inf t) (fin u p g) h k = tt
le-trans-float (inf true) (fin t n d) nan h k = absurd k
le-trans-float (inf true) (fin t n d) (inf true) h k = tt
le-trans-float (inf true) (fin t n d) (inf false) h k = tt
le-trans-float (inf true) (fin t n d) (fin u p g) h k = tt
le-trans-float (inf false) nan z h k = absurd h
le-trans-float (inf false) (inf true) z h k = absurd h
le-trans-float (inf false) (inf false) z h k = k
le-trans-float (inf false) (fin t n d) z h k = absurd h
le-trans-float (fin s m e) nan z h k = absurd h
le-trans-float (fin s m e) (inf true) z h k = absurd h
le-trans-float (fin s m e) (inf false) nan h k = absurd k
le-trans-float (fin s m e) (inf false) (inf true) h k = absurd k
le-trans-float (fin s m e) (inf false) (inf false) h k = tt
le-trans-float (fin s m e) (inf false) (fin u p g) h k = absurd k
le-trans-float (fin s m e) (fin t n d) nan h k = absurd k
le-trans-float (fin s m e) (fin t n d) (inf true) h k = absurd k
le-trans-float (fin s m e) (fin t n d) (inf false) h k = tt
le-trans-float (fin s m e) (fin t n d) (fin u p g) h k =
    sizes→le s u m p e g
    (sle-trans s t u (m * up e) (n * up d) (p * up g) (down e) (down d) (down g) (down_pos e) (down_pos d) (down_pos g) (le→sizes s t m n e d h)
    (le→sizes t u n p d g k))

sle-turn : (s t : Bool) (a b : ℕ) → SLe s a t b → SLe (not t) b (not s) a
sle-turn false false a b h = omega arith
sle-turn false true a b h = omega arith
sle-turn true false a b h = omega arith
sle-turn true true a b h = omega arith

pub le-neg : (x y : Float) → T (le x y) → T (le (neg y) (neg x))
unfolding le neg
le-neg nan y h = absurd h
le-neg (inf s) nan h = absurd h
le-neg (inf true) (inf true) h = tt
le-neg (inf true) (inf false) h = tt
le-neg (inf false) (inf true) h = absurd h
le-neg (inf false) (inf false) h = tt
le-neg (inf true) (fin t n d) h = tt
le-neg (inf false) (fin t n d) h = absurd h
le-neg (fin s m e) nan h = absurd h
le-neg (fin s m e) (inf true) h = absurd h
le-neg (fin s m e) (inf false) h = tt
le-neg (fin s m e) (fin t n d) h = sizes→le (not t) (not s) n m d e (sle-turn s t (m * up e * down d) (n * up d * down e) (le→sizes s t m n e d h))

pub le-refl-float : (x : Float) → T (not (is_nan x)) → T (le x x)
unfolding le is_nan
le-refl-float nan h = absurd h
le-refl-float (inf true) h = tt
le-refl-float (inf false) h = tt
le-refl-float (fin s m e) h = sizes→le s s m m e e (le_refl _)

-- where x is not below y, y is at most x
pub not-below : (x y : Float) → T (not (is_nan x)) → T (not (is_nan y)) → lt x y ≡ false → T (le y x)
unfolding lt le is_nan
not-below nan y p q h = absurd p
not-below (inf s) nan p q h = absurd q
not-below (inf true) (inf true) p q h = tt
not-below (inf true) (inf false) p q h = absurd (true≢false h)
not-below (inf false) (inf true) p q h = tt
not-below (inf false) (inf false) p q h = tt
not-below (inf true) (fin t n d) p q h = absurd (true≢false h)
not-below (inf false) (fin t n d) p q h = tt
not-below (fin s m e) nan p q h = absurd q
not-below (fin s m e) (inf true) p q h = tt
not-below (fin s m e) (inf false) p q h = absurd (true≢false h)
not-below (fin s m e) (fin t n d) p q h = sizes→le t s n m d e (go s t (m * up e * down d) (n * up d * down e) h)
  where
    go : (s t : Bool) (a b : ℕ) → below s a t b ≡ false → SLe t b s a
    go false false a b h = omega (arith, ltb-false a b h)
    go false true a b h = omega arith
    go true false a b h = omega (arith, ltb-false 0 (a + b) h)
    go true true a b h = omega (arith, ltb-false b a h)

-- ---- rounding keeps the order

round_up : (f : Format) (a b c : ℕ) → 0 < c → a ≤ b → T (le (round f false a c) (round f false b c))
round_up f a b c C h = round_mono f a c b c C C (mul-le-mul_right c h)

round-down : (f : Format) (a b c : ℕ) → 0 < c → b ≤ a → T (le (round f true a c) (round f true b c))
round-down f a b c C h =
    rw (← neg-round f false a c, ← neg-round f false b c)
    (le-neg (round f false b c) (round f false a c) (round_up f b a c C h))

pub round-smono : (f : Format) (s t : Bool) (a b c : ℕ) → 0 < c → SLe s a t b → T (le (round f s a c) (round f t b c))
round-smono f false false a b c C h = round_up f a b c C (omega arith)
round-smono f true true a b c C h = round-down f a b c C (omega arith)
round-smono f false true a b c C h =
    let x : a ≡ 0 = omega arith in
    let y : b ≡ 0 = omega arith in
    rw (x, y, round-zero f false c C, round-zero f true c C) (unfold le in tt)
round-smono f true false a b c C h =
    le-trans-float (round f true a c) (fin true 0 (pos 0)) (round f false b c)
    (subst (λ (x : Float). T (le (round f true a c) x)) (round-zero f true c C) (round-down f a 0 c C (omega arith)))
    (le-trans-float (fin true 0 (pos 0)) (fin false 0 (pos 0)) (round f false b c) (unfold le in tt)
    (subst (λ (x : Float). T (le x (round f false b c))) (round-zero f false c C) (round_up f 0 b c C (omega arith))))

-- ---- addition keeps the order in its second operand

-- ±a + ±b as a sign and a size
abbrev sum-sign : Bool → ℕ → Bool → ℕ → Bool
sum-sign s a t b = cond (beq s t) s (cond (ltb a b) t (s && ltb b a))

abbrev sum-size : Bool → ℕ → Bool → ℕ → ℕ
sum-size s a t b = cond (beq s t) (a + b) (cond (ltb a b) (b - a) (a - b))

sum_is : (f : Format) (s : Bool) (a : ℕ) (t : Bool) (b c : ℕ) → sum f s a t b c ≡ round f (sum-sign s a t b) (sum-size s a t b) c
unfolding sum
sum_is f s a t b c = go (beq s t) (ltb a b)
  where
    go : (p q : Bool)
        → cond p (round f s (a + b) c) (cond q (round f t (b - a) c) (round f (s && ltb b a) (a - b) c)) ≡ round f (cond p s (cond q t (s && ltb b a)))
        (cond p (a + b) (cond q (b - a) (a - b))) c
    go true q = refl
    go false true = refl
    go false false = refl

-- what is above and below zero in a sum is what its operands have, but for what cancels
sum-parts : (s : Bool) (a : ℕ) (t : Bool) (b : ℕ)
    → above-part (sum-sign s a t b) (sum-size s a t b) + (below-part s a + below-part t b) ≡ above-part s a + above-part t b + below-part (sum-sign s a t b)
    (sum-size s a t b)
sum-parts true a true b = omega arith
sum-parts false a false b = omega arith
sum-parts true a false b = go (three a b)
  where
    go : Three a b
        → above-part (sum-sign true a false b) (sum-size true a false b) + (a + 0) ≡ 0 + b + below-part (sum-sign true a false b) (sum-size true a false b)
    go (less h) = rw (lt-ltb a b h) (omega arith)
    go (same h) = rw (le-ltb a b (omega arith), le-ltb b a (omega arith)) (omega arith)
    go (more h) = rw (le-ltb a b (omega arith), lt-ltb b a h) (omega arith)
sum-parts false a true b = go (three a b)
  where
    go : Three a b
        → above-part (sum-sign false a true b) (sum-size false a true b) + (0 + b) ≡ a + 0 + below-part (sum-sign false a true b) (sum-size false a true b)
    go (less h) = rw (lt-ltb a b h) (omega arith)
    go (same h) = rw (le-ltb a b (omega arith)) (omega arith)
    go (more h) = rw (le-ltb a b (omega arith)) (omega arith)

sum_mono : (f : Format) (s : Bool) (a : ℕ) (t : Bool) (b : ℕ) (u : Bool) (d c : ℕ) → 0 < c → SLe t b u d → T (le (sum f s a t b c) (sum f s a u d c))
sum_mono f s a t b u d c C h =
    rw (sum_is f s a t b c, sum_is f s a u d c)
    (round-smono f (sum-sign s a t b) (sum-sign s a u d) (sum-size s a t b) (sum-size s a u d) c C (omega (arith, sum-parts s a t b, sum-parts s a u d)))

-- the same over a common denominator
pub round-scale : (f : Format) (s : Bool) (z c k : ℕ) → 0 < c → 0 < k → round f s z c ≡ round f s (z * k) (c * k)
round-scale f s z c k C K = round_same f s z c (z * k) (c * k) C (mul-pos C K) (simp (mul_assoc, mul_comm))

pub sub-times : (a b k : ℕ) → (a - b) * k ≡ a * k - b * k
sub-times a b k = mul_comm (a - b) k ∙ mul-sub k a b ∙ simp mul_comm

scale-unlike : (f : Format) (s : Bool) (a b c k : ℕ) → 0 < c → 0 < k → Three a b → sum f s a (not s) b c ≡ sum f s (a * k) (not s) (b * k) (c * k)
scale-unlike f s a b c k C K (less h) =
    sum_less f s a b c h ∙ round-scale f (not s) (b - a) c k C K ∙ ap (λ (z : ℕ). round f (not s) z (c * k)) (sub-times b a k)
    ∙ sym (sum_less f s (a * k) (b * k) (c * k) (mul-lt-mul_of_pos_right h K))
scale-unlike f s a b c k C K (same h) = sum_same f s a b c C h ∙ sym (sum_same f s (a * k) (b * k) (c * k) (mul-pos C K) (ap (λ (z : ℕ). z * k) h))
scale-unlike f s a b c k C K (more h) =
    sum_more f s a b c h ∙ round-scale f s (a - b) c k C K ∙ ap (λ (z : ℕ). round f s z (c * k)) (sub-times a b k)
    ∙ sym (sum_more f s (a * k) (b * k) (c * k) (mul-lt-mul_of_pos_right h K))

scale-like : (f : Format) (s : Bool) (a b c k : ℕ) → 0 < c → 0 < k → sum f s a s b c ≡ sum f s (a * k) s (b * k) (c * k)
scale-like f s a b c k C K =
    sum_like f s a b c ∙ round-scale f s (a + b) c k C K ∙ ap (λ (z : ℕ). round f s z (c * k)) (add-mul a b k) ∙ sym (sum_like f s (a * k) (b * k) (c * k))

sum-scale : (f : Format) (s : Bool) (a : ℕ) (t : Bool) (b c k : ℕ) → 0 < c → 0 < k → sum f s a t b c ≡ sum f s (a * k) t (b * k) (c * k)
sum-scale f true a true b c k C K = scale-like f true a b c k C K
sum-scale f true a false b c k C K = scale-unlike f true a b c k C K (three a b)
sum-scale f false a true b c k C K = scale-unlike f false a b c k C K (three a b)
sum-scale f false a false b c k C K = scale-like f false a b c k C K

sle-scale : (t u : Bool) (a b k : ℕ) → SLe t a u b → SLe t (a * k) u (b * k)
sle-scale false false a b k h = omega (arith, mul-le-mul_right k h)
sle-scale false true a b k h =
    let x : a ≡ 0 = omega arith in
    let y : b ≡ 0 = omega arith in
    rw (x, y) (omega (arith, zero-mul k))
sle-scale true false a b k h = omega arith
sle-scale true true a b k h = omega (arith, mul-le-mul_right k h)

pub add-mono : (f : Format) (x y z : Float) → T (finite x) → T (finite y) → T (finite z) → T (le y z) → T (le (add f x y) (add f x z))
unfolding add
add-mono f nan y z p q r h = absurd p
add-mono f (inf s) y z p q r h = absurd p
add-mono f (fin s m e) nan z p q r h = absurd q
add-mono f (fin s m e) (inf t) z p q r h = absurd q
add-mono f (fin s m e) (fin t n d) nan p q r h = absurd r
add-mono f (fin s m e) (fin t n d) (inf u) p q r h = absurd r
add-mono f (fin s m e) (fin t n d) (fin u o g) p q r h =
    let X = m * up e in
    let Y = n * up d in
    let Z = o * up g in
    let ey : sum f s (X * down d) t (Y * down e) (down e * down d) ≡ sum f s (X * down d * down g) t (Y * down e * down g) (down e * down d * down g) =
    sum-scale f s (X * down d) t (Y * down e) (down e * down d) (down g) (mul-pos (down_pos e) (down_pos d)) (down_pos g) in
    let ez : sum f s (X * down g) u (Z * down e) (down e * down g) ≡ sum f s (X * down g * down d) u (Z * down e * down d) (down e * down g * down d) =
    sum-scale f s (X * down g) u (Z * down e) (down e * down g) (down d) (mul-pos (down_pos e) (down_pos g)) (down_pos d) in
    let k : SLe t (Y * down e * down g) u (Z * down e * down d) =
    rw (mul_right_comm Y (down e) (down g), mul_right_comm Z (down e) (down d)) (sle-scale t u (Y * down g) (Z * down d) (down e) (le→sizes t u n o d g h)) in
    rw (ey, ez, mul_right_comm X (down g) (down d), mul_right_comm (down e) (down g) (down d))
    (sum_mono f s (X * down d * down g) t (Y * down e * down g) u (Z * down e * down d) (down e * down d * down g)
    (mul-pos (mul-pos (down_pos e) (down_pos d)) (down_pos g)) k)
