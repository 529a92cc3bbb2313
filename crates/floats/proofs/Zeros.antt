-- Two floats whose sum is zero: one is the other's negation, or both are zeros of one sign.
use mathlib.Core.Path.{◌≡◌, refl, sym, ap, ◌∙◌, subst}
use mathlib.Core.Bool.{Bool, true, false, not, ◌&&◌, true≢false, false≢true}
use mathlib.Core.Logic.{◌⊎◌, inl, inr, ⊎_elim}
use Prim.Native.Nat.{ℕ, zero, suc, ◌+◌, ◌-◌, ◌*◌, ◌%◌, ◌^◌, ◌≤◌, ◌<◌}
use native.Mathlib.Nat.{mul-pos, zero-lt-suc, lt_irrefl, mul_comm, mul_left_comm, one-mul, zero-mul, mul-add, mul-sub, mul-le-mul, mul-le-mul_right, le_refl, le_trans, le-mul_of_pos_right}
use native.Mathlib.Omega.{arith}
use lib.IntN.{ℤ, pos, negsuc}
use lib.Dec.{T, leb, ltb, eqb, leb→le}
use lib.Pow.{pow-add}
use lib.Ieee.{Float, nan, inf, fin, binary64, up, down, neg, add, sum, round, le, eq, fits, of_bits, to_bits}
use lib.Ieee.Fits.{up_pos, down_pos, and_l, and_r, round-fits, neg-fits}
use lib.Ieee.Scale.{finite}
use Rattle.basics.proofs.Tests.{zero-not-one, le-or-lt}
use Rattle.floats.specs.Floats.{pos_zero, plus_zero, abs, minus_zero}
use Rattle.floats.proofs.Helpers.{plus-zero}
use Rattle.floats.proofs.Order.{SLe, le→sizes}
use Rattle.floats.proofs.Rounding.{round-below, round-above, value-unique}
use Rattle.floats.proofs.Signs.{zero_exp, Three, less, same, more, three, sum_like, sum_less, sum_more, abs_neg, add-neg-self}

-- ---- a step of binary64's smallest value or more does not round to zero

abbrev smallest : Bool → Float
smallest s = fin s 1 (negsuc 1073)

zero-shape : (z : Float) → pos_zero ≡ plus_zero z → (s : Bool) × (e : ℤ) × (z ≡ fin s 0 e)
unfolding plus_zero of_bits
zero-shape nan p = absurd (zero-not-one cc)
zero-shape (inf s) p = absurd (zero-not-one cc)
zero-shape (fin s zero e) p = (s, e, refl)
zero-shape (fin s (suc m) e) p = absurd (let n : 0 ≡ suc m = cc in omega arith)

-- no zero is as far from it as the smallest value
above-none : (s : Bool) (a b : ℕ) → 0 < a → b ≡ 0 → SLe false a s b → ⊥
above-none true a b p z h = omega arith
above-none false a b p z h = omega arith

below_none : (s : Bool) (a b : ℕ) → 0 < a → b ≡ 0 → SLe s b true a → ⊥
below_none true a b p z h = omega arith
below_none false a b p z h = omega arith

no_above : (s : Bool) (e : ℤ) → T (le (smallest false) (fin s 0 e)) → ⊥
no_above s e h =
    above-none s (1 * 1 * down e) (0 * up e * 2 ^ 1074) (mul-pos (zero-lt-suc 0) (down_pos e)) (simp zero-mul) (le→sizes false s 1 0 (negsuc 1073) e h)

no-below : (s : Bool) (e : ℤ) → T (le (fin s 0 e) (smallest true)) → ⊥
no-below s e h =
    below_none s (1 * 1 * down e) (0 * up e * 2 ^ 1074) (mul-pos (zero-lt-suc 0) (down_pos e)) (simp zero-mul) (le→sizes s true 0 1 e (negsuc 1073) h)

step-above : (c k : ℕ) → c ≤ k → SLe false (1 * 1 * c) false k
step-above c k h = omega arith

step-below : (c k : ℕ) → c ≤ k → SLe true k true (1 * 1 * c)
step-below c k h = omega arith

steps-zero : (s : Bool) (k c : ℕ) → 0 < c → c ≤ k * 2 ^ 1074 → eq (round binary64 s k c) pos_zero ≡ true → ⊥
steps-zero s k c C h z = go s refl
  where
    shape : (t : Bool) × (e : ℤ) × (round binary64 s k c ≡ fin t 0 e)
    shape = zero-shape (round binary64 s k c) (plus-zero (round binary64 s k c) (round-fits binary64 s k c) z)

    go : (t : Bool) → s ≡ t → ⊥
    go false e =
        no_above shape.0 shape.1
        (subst (λ (x : Float). T (le (smallest false) x)) (ap (λ (u : Bool). round binary64 u k c) (sym e) ∙ shape.2)
        (round-above binary64 false k c false 1 (negsuc 1073) C (unfold fits in tt) (step-above c (k * 2 ^ 1074) h)))
    go true e =
        no-below shape.0 shape.1
        (subst (λ (x : Float). T (le x (smallest true))) (ap (λ (u : Bool). round binary64 u k c) (sym e) ∙ shape.2)
        (round-below binary64 true k c true 1 (negsuc 1073) C (unfold fits in tt) (step-below c (k * 2 ^ 1074) h)))

-- ---- the sizes of two floats are such numbers of steps, over a common denominator

-- a and b are multiples of the unit, and one unit over c is a step or more
record Steps (a b c : ℕ) : Type 0 where
  unit : ℕ
  a-times : ℕ
  b-times : ℕ
  a-is : a ≡ unit * a-times
  b-is : b ≡ unit * b-times
  coarse : c ≤ unit * 2 ^ 1074

denominator : (s : Bool) (m : ℕ) (e : ℤ) → T (fits binary64 (fin s m e)) → down e ≤ 2 ^ 1074
unfolding fits
denominator s zero e t = rw (zero_exp binary64 s e (unfold fits in t)) (leb→le 1 (2 ^ 1074) tt)
denominator s (suc m) e t =
    let a = eqb (suc m % 2) 1 && ltb (suc m) (2 ^ 53) in
    let b = leb (down e) (2 ^ 1074) in
    leb→le (down e) (2 ^ 1074) (and_r a b (and_l (a && b) (ltb (suc m * up e) (2 ^ 1024 * down e)) t))

-- of two powers of two one is a multiple of the other
powers : (j k : ℕ) → j ≤ k → 2 ^ k ≡ 2 ^ j * 2 ^ (k - j)
powers j k h = let e : k ≡ j + (k - j) = omega arith in ap (λ (x : ℕ). 2 ^ x) e ∙ pow-add 2 j (k - j)

divides : (e d : ℤ) → ((r : ℕ) × (down d ≡ down e * r)) ⊎ ((r : ℕ) × (down e ≡ down d * r))
divides (pos a) d = inl (down d, sym (one-mul (down d)))
divides (negsuc j) (pos b) = inr (down (negsuc j), sym (one-mul (down (negsuc j))))
divides (negsuc j) (negsuc k) =
    ⊎_elim (λ h. inl (2 ^ (suc k - suc j), powers (suc j) (suc k) (omega arith))) (λ h. inr (2 ^ (suc j - suc k), powers (suc k) (suc j) (omega arith)))
    (le-or-lt j k)

steps : (x y p q : ℕ) → p ≤ 2 ^ 1074 → q ≤ 2 ^ 1074 → ((r : ℕ) × (q ≡ p * r)) ⊎ ((r : ℕ) × (p ≡ q * r)) → Steps (x * q) (y * p) (p * q)
steps x y p q P Q (inl (r, e)) =
    record {
      unit = p;
      a-times = x * r;
      b-times = y;
      a-is = ap (λ (z : ℕ). x * z) e ∙ mul_left_comm x p r;
      b-is = mul_comm y p;
      coarse = mul-le-mul (le_refl p) Q;
    }
steps x y p q P Q (inr (r, e)) =
    record {
      unit = q;
      a-times = x;
      b-times = y * r;
      a-is = mul_comm x q;
      b-is = ap (λ (z : ℕ). y * z) e ∙ mul_left_comm y q r;
      coarse = rw (mul_comm p q) (mul-le-mul (le_refl q) P);
    }

-- ---- the sum

-- a multiple of the unit that rounds to zero is zero
none : (s : Bool) (u k n c : ℕ) → 0 < c → c ≤ u * 2 ^ 1074 → n ≡ u * k → eq (round binary64 s n c) pos_zero ≡ true → n ≡ 0
none s u zero n c C h e z = e ∙ mul_comm u 0 ∙ zero-mul u
none s u (suc k) n c C h e z =
    absurd (steps-zero s n c C (rw e (le_trans h (mul-le-mul_right (2 ^ 1074) (le-mul_of_pos_right u (zero-lt-suc k))))) z)

-- of ±a / c and ±b / c
module _ (a b c : ℕ) (C : 0 < c) (g : Steps a b c) where
  like-none : (s : Bool) → eq (sum binary64 s a s b c) pos_zero ≡ true → (a ≡ 0) × (b ≡ 0)
  like-none s z =
      let k : a + b ≡ 0 =
      none s g.unit (g.a-times + g.b-times) (a + b) c C g.coarse ((λ i. g.a-is i + g.b-is i) ∙ sym (mul-add g.unit g.a-times g.b-times))
      (sym (ap (λ (x : Float). eq x pos_zero) (sum_like binary64 s a b c)) ∙ z) in
      (omega arith, omega arith)

  unlike-same : (s : Bool) → Three a b → eq (sum binary64 s a (not s) b c) pos_zero ≡ true → a ≡ b
  unlike-same s (less h) z =
      let k : b - a ≡ 0 =
      none (not s) g.unit (g.b-times - g.a-times) (b - a) c C g.coarse
      ((λ i. g.b-is i - g.a-is i) ∙ sym (mul-sub g.unit g.b-times g.a-times))
      (sym (ap (λ (x : Float). eq x pos_zero) (sum_less binary64 s a b c h)) ∙ z) in
      omega arith
  unlike-same s (same h) z = h
  unlike-same s (more h) z =
      let k : a - b ≡ 0 =
      none s g.unit (g.a-times - g.b-times) (a - b) c C g.coarse ((λ i. g.a-is i - g.b-is i) ∙ sym (mul-sub g.unit g.a-times g.b-times))
      (sym (ap (λ (x : Float). eq x pos_zero) (sum_more binary64 s a b c h)) ∙ z) in
      omega arith

is_zero : (s : Bool) (m : ℕ) (e d : ℤ) → T (fits binary64 (fin s m e)) → m * up e * down d ≡ 0 → fin s m e ≡ fin s 0 (pos 0)
is_zero s zero e d t z = ap (fin s 0) (zero_exp binary64 s e t)
is_zero s (suc m) e d t z = absurd (lt_irrefl 0 (subst (λ (k : ℕ). 0 < k) z (mul-pos (mul-pos (zero-lt-suc m) (up_pos e)) (down_pos d))))

-- one is the other's negation, or both are zeros of one sign
abbrev pub Cancels : Float → Float → Type 0
Cancels x y = (y ≡ neg x) ⊎ ((s : Bool) × (x ≡ fin s 0 (pos 0)) × (y ≡ fin s 0 (pos 0)))

cancel : (s t : Bool) (m n : ℕ) (e d : ℤ) → T (fits binary64 (fin s m e)) → T (fits binary64 (fin t n d))
    → eq (sum binary64 s (m * up e * down d) t (n * up d * down e) (down e * down d)) pos_zero ≡ true
    → Cancels (fin s m e) (fin t n d)
cancel s t m n e d p q z = go s t p q z
  where
    a : ℕ
    a = m * up e * down d

    b : ℕ
    b = n * up d * down e

    C : 0 < down e * down d
    C = mul-pos (down_pos e) (down_pos d)

    g : Steps a b (down e * down d)
    g = steps (m * up e) (n * up d) (down e) (down d) (denominator s m e p) (denominator t n d q) (divides e d)

    likes : (u : Bool) → T (fits binary64 (fin u m e)) → T (fits binary64 (fin u n d)) → eq (sum binary64 u a u b (down e * down d)) pos_zero ≡ true
        → Cancels (fin u m e) (fin u n d)
    likes u i j h =
        let k = like-none a b (down e * down d) C g u h in
        inr (u, is_zero u m e d i k.0, is_zero u n d e j k.1)

    unlikes : (u : Bool) → T (fits binary64 (fin u m e)) → T (fits binary64 (fin (not u) n d))
        → eq (sum binary64 u a (not u) b (down e * down d)) pos_zero ≡ true → Cancels (fin u m e) (fin (not u) n d)
    unlikes u i j h =
        let k = unlike-same a b (down e * down d) C g u (three a b) h in
        inl (unfold neg in
        value-unique binary64 (fin (not u) n d) (fin (not u) m e) (not u) (m * up e) (down e) (down_pos e) j
        (unfold neg in neg-fits binary64 (fin u m e) i) (refl, sym k) (refl, refl))

    go : (u v : Bool) → T (fits binary64 (fin u m e)) → T (fits binary64 (fin v n d)) → eq (sum binary64 u a v b (down e * down d)) pos_zero ≡ true
        → Cancels (fin u m e) (fin v n d)
    go true true i j h = likes true i j h
    go true false i j h = unlikes true i j h
    go false true i j h = unlikes false i j h
    go false false i j h = likes false i j h

pub sum-zero : (x y : Float) → T (fits binary64 x) → T (fits binary64 y) → eq (add binary64 x y) pos_zero ≡ true → T (finite x) × Cancels x y
unfolding add eq of_bits
sum-zero nan y p q z = absurd (false≢true z)
sum-zero (inf s) nan p q z = absurd (false≢true z)
sum-zero (inf true) (inf true) p q z = absurd (false≢true z)
sum-zero (inf true) (inf false) p q z = absurd (false≢true z)
sum-zero (inf false) (inf true) p q z = absurd (false≢true z)
sum-zero (inf false) (inf false) p q z = absurd (false≢true z)
sum-zero (inf s) (fin t n d) p q z = absurd (false≢true z)
sum-zero (fin s m e) nan p q z = absurd (false≢true z)
sum-zero (fin s m e) (inf t) p q z = absurd (false≢true z)
sum-zero (fin s m e) (fin t n d) p q z = (tt, cancel s t m n e d p q z)

-- ---- what follows

pub same_size : (x y : Float) → Cancels x y → abs x ≡ abs y
same_size x y (inl e) = sym (ap abs e ∙ abs_neg x)
same_size x y (inr (s, e, f)) = ap abs (e ∙ sym f)

-- the sum is plus zero, unless both are minus zero
pub plus-sum : (x y : Float) → T (finite x) → Cancels x y → minus_zero x ≡ false → add binary64 x y ≡ pos_zero
unfolding of_bits add to_bits
plus-sum x y p (inl e) n = ap (add binary64 x) e ∙ add-neg-self binary64 x p
plus-sum x y p (inr (false, e, f)) n = λ i. add binary64 (e i) (f i)
plus-sum x y p (inr (true, e, f)) n = absurd (true≢false (sym (ap minus_zero e) ∙ n))
