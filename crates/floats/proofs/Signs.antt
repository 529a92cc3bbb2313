-- Signs and the operations of IEEE 754: a product and a quotient turn with the sign of an operand, a difference turns where its operands are exchanged, x +
-- (−x) is plus zero.
use mathlib.Core.Path.{◌≡◌, refl, sym, ap, ◌∙◌, subst}
use mathlib.Core.Logic.{◌⊎◌, inl, inr}
use mathlib.Core.Bool.{Bool, true, false, not, cond, not-not}
use Prim.Native.Nat.{ℕ, zero, suc, ◌+◌, ◌-◌, ◌*◌, ◌^◌, ◌<◌}
use native.Mathlib.Nat.{mul-one, one-mul, zero-mul, mul-pos, lt_irrefl, pow-succ', zero-lt-suc, mul_comm, add_comm, le_antisymm}
use native.Mathlib.Omega.{arith}
use borrow.Author.Tests.{ltb-true, ltb-false, le-ltb, lt-ltb}
use lib.IntN.{ℤ, pos, negsuc}
use lib.Pow.{pow_pos}
use lib.Dec.{T, ltb, eqb, eqb→eq}
use lib.Ieee.{Float, nan, inf, fin, Format, binary64, up, down, neg, add, sub, mul, div, sum, round, units, odd, fits, unlike, low, prec, emax}
use lib.Ieee.Fits.{up_pos, down_pos, round_is, round-fits}
use lib.Ieee.Exact.{HasValue, round_exact}
use lib.Ieee.Scale.{finite}
use Rattle.floats.specs.Floats.{abs, plus_zero}

-- ---- negation

pub neg-neg : (x : Float) → neg (neg x) ≡ x
unfolding neg
neg-neg nan = refl
neg-neg (inf s) = ap inf (not-not s)
neg-neg (fin s m e) = ap (λ (t : Bool). fin t m e) (not-not s)

neg-cond : (b : Bool) (x y : Float) → neg (cond b x y) ≡ cond b (neg x) (neg y)
neg-cond true x y = refl
neg-cond false x y = refl

neg-odd : (d : ℕ) (s : Bool) (q k l : ℕ) → neg (odd d s q k l) ≡ odd d (not s) q k l
unfolding neg odd
neg-odd d s zero k l = refl
neg-odd d s (suc q) k l = refl

neg-units : (f : Format) (s : Bool) (q k : ℕ) → neg (units f s q k) ≡ units f (not s) q k
unfolding neg units
neg-units f s q k =
    neg-cond (ltb (q * 2 ^ k) (2 ^ (low f + suc (emax f)))) (odd (suc (prec f)) s q k (low f)) (inf s)
    ∙ ap (λ (x : Float). cond (ltb (q * 2 ^ k) (2 ^ (low f + suc (emax f)))) x (inf (not s))) (neg-odd (suc (prec f)) s q k (low f))

-- rounding is the same on both sides of zero
pub neg-round : (f : Format) (s : Bool) (a c : ℕ) → neg (round f s a c) ≡ round f (not s) a c
neg-round f s a c = ap neg (round_is f s a c) ∙ neg-units f s _ _ ∙ sym (round_is f (not s) a c)

-- ---- product and quotient

unlike-not : (s t : Bool) → unlike (not s) t ≡ not (unlike s t)
unlike-not true true = refl
unlike-not true false = refl
unlike-not false true = refl
unlike-not false false = refl

pub mul-neg : (f : Format) (x y : Float) → mul f (neg x) y ≡ neg (mul f x y)
unfolding mul neg
mul-neg f nan y = refl
mul-neg f (inf s) nan = refl
mul-neg f (inf s) (inf t) = ap inf (unlike-not s t)
mul-neg f (inf s) (fin t n d) = rw (unlike-not s t, neg-cond (eqb n 0) nan (inf (unlike s t)))
mul-neg f (fin s m e) nan = refl
mul-neg f (fin s m e) (inf t) = rw (unlike-not s t, neg-cond (eqb m 0) nan (inf (unlike s t)))
mul-neg f (fin s m e) (fin t n d) = rw (unlike-not s t) (sym (neg-round f (unlike s t) (m * up e * (n * up d)) (down e * down d)))

pub div-neg : (f : Format) (x y : Float) → div f (neg x) y ≡ neg (div f x y)
unfolding div neg
div-neg f nan y = refl
div-neg f (inf s) nan = refl
div-neg f (inf s) (inf t) = refl
div-neg f (inf s) (fin t n d) = ap inf (unlike-not s t)
div-neg f (fin s m e) nan = refl
div-neg f (fin s m e) (inf t) = ap (λ (b : Bool). fin b 0 (pos 0)) (unlike-not s t)
div-neg f (fin s m e) (fin t n d) = rw (unlike-not s t) (go (eqb n 0) (eqb m 0))
  where
    go : (p q : Bool)
        → cond p (cond q nan (inf (not (unlike s t)))) (round f (not (unlike s t)) (m * up e * down d) (n * up d * down e)) ≡ neg
        (cond p (cond q nan (inf (unlike s t))) (round f (unlike s t) (m * up e * down d) (n * up d * down e)))
    go true true = refl
    go true false = refl
    go false q = sym (neg-round f (unlike s t) (m * up e * down d) (n * up d * down e))

-- ---- zero

double-one : (p : ℕ) → 0 < p → 2 * p ≡ 1 → ⊥
double-one p h e = omega arith

flat : (e : ℤ) → up e * down e ≡ 1 → e ≡ pos 0
flat (pos zero) h = refl
flat (pos (suc k)) h = absurd (double-one (2 ^ k) (pow_pos k) (sym (pow-succ' 2 k) ∙ sym (mul-one (2 ^ suc k)) ∙ h))
flat (negsuc k) h = absurd (double-one (2 ^ k) (pow_pos k) (sym (pow-succ' 2 k) ∙ sym (one-mul (2 ^ suc k)) ∙ h))

-- a zero that fits has the exponent 0
pub zero_exp : (f : Format) (s : Bool) (e : ℤ) → T (fits f (fin s zero e)) → e ≡ pos 0
unfolding fits
zero_exp f s e t = flat e (eqb→eq (up e * down e) 1 t)

-- a value of size 0 that fits is written in one way
pub zero-value : (f : Format) (x : Float) (s : Bool) (c : ℕ) → 0 < c → T (fits f x) → HasValue x s 0 c → x ≡ fin s 0 (pos 0)
zero-value f nan s c C p v = absurd v
zero-value f (inf t) s c C p v = absurd v
zero-value f (fin t zero e) s c C p v = λ i. fin (v.0 i) zero (zero_exp f t e p i)
zero-value f (fin t (suc m) e) s c C p v =
    absurd (lt_irrefl 0 (subst (λ (k : ℕ). 0 < k) (v.1 ∙ zero-mul (down e)) (mul-pos (mul-pos (zero-lt-suc m) (up_pos e)) C)))

pub round-zero : (f : Format) (s : Bool) (c : ℕ) → 0 < c → round f s 0 c ≡ fin s 0 (pos 0)
round-zero f s c C =
    zero-value f (round f s 0 c) s c C (round-fits f s 0 c)
    (round_exact f s 0 c 0 0 C (pow_pos (prec f)) (pow_pos (low f + suc (emax f))) (simp zero-mul))

-- ---- the sum of two sizes a / c and b / c

pub data Three : ℕ → ℕ → Type 0 where
  less : {a b : ℕ} → a < b → Three a b
  same : {a b : ℕ} → a ≡ b → Three a b
  more : {a b : ℕ} → b < a → Three a b

pub three : (a b : ℕ) → Three a b
three a b = go (ltb a b) refl (ltb b a) refl
  where
    go : (p : Bool) → ltb a b ≡ p → (q : Bool) → ltb b a ≡ q → Three a b
    go true h q k = less (ltb-true a b h)
    go false h true k = more (ltb-true b a k)
    go false h false k = same (le_antisymm (ltb-false b a k) (ltb-false a b h))

pub sum_like : (f : Format) (s : Bool) (a b c : ℕ) → sum f s a s b c ≡ round f s (a + b) c
unfolding sum
sum_like f true a b c = refl
sum_like f false a b c = refl

pub sum_less : (f : Format) (s : Bool) (a b c : ℕ) → a < b → sum f s a (not s) b c ≡ round f (not s) (b - a) c
unfolding sum
sum_less f true a b c h = rw (lt-ltb a b h)
sum_less f false a b c h = rw (lt-ltb a b h)

pub sum_more : (f : Format) (s : Bool) (a b c : ℕ) → b < a → sum f s a (not s) b c ≡ round f s (a - b) c
unfolding sum
sum_more f true a b c h = rw (le-ltb a b (omega arith), lt-ltb b a h)
sum_more f false a b c h = rw (le-ltb a b (omega arith))

pub sum_same : (f : Format) (s : Bool) (a b c : ℕ) → 0 < c → a ≡ b → sum f s a (not s) b c ≡ fin false 0 (pos 0)
unfolding sum
sum_same f true a b c C e =
    let z : a - b ≡ 0 = omega arith in
    rw (le-ltb a b (omega arith), le-ltb b a (omega arith), z) (round-zero f false c C)
sum_same f false a b c C e =
    let z : a - b ≡ 0 = omega arith in
    rw (le-ltb a b (omega arith), z) (round-zero f false c C)

-- ---- the difference, both ways round: one is the other's negation, or both are plus zero

abbrev pub Turned : Float → Float → Type 0
Turned x y = (x ≡ neg y) ⊎ ((x ≡ fin false 0 (pos 0)) × (y ≡ fin false 0 (pos 0)))

turned-sum : (f : Format) (s : Bool) (a b c : ℕ) → 0 < c → Three a b → Turned (sum f s a (not s) b c) (sum f s b (not s) a c)
turned-sum f s a b c C (less h) = inl (sum_less f s a b c h ∙ sym (neg-round f s (b - a) c) ∙ ap neg (sym (sum_more f s b a c h)))
turned-sum f s a b c C (same h) = inr (sum_same f s a b c C h, sum_same f s b a c C (sym h))
turned-sum f s a b c C (more h) =
    inl (sum_more f s a b c h ∙ sym (neg-neg (round f s (a - b) c)) ∙ ap neg (neg-round f s (a - b) c ∙ sym (sum_less f s b a c h)))

like-sum : (f : Format) (s : Bool) (a b c : ℕ) → sum f s a s b c ≡ neg (sum f (not s) b (not s) a c)
like-sum f s a b c =
    sum_like f s a b c
    ∙ ap (λ (k : ℕ). round f s k c) (add_comm a b)
    ∙ sym (neg-neg (round f s (b + a) c))
    ∙ ap neg (neg-round f s (b + a) c ∙ sym (sum_like f (not s) b a c))

-- x − y and y − x
pub sub-turned : (f : Format) (x y : Float) → Turned (sub f x y) (sub f y x)
unfolding sub add neg
sub-turned f nan nan = inl refl
sub-turned f nan (inf t) = inl refl
sub-turned f nan (fin t n d) = inl refl
sub-turned f (inf s) nan = inl refl
sub-turned f (inf true) (inf true) = inl refl
sub-turned f (inf true) (inf false) = inl refl
sub-turned f (inf false) (inf true) = inl refl
sub-turned f (inf false) (inf false) = inl refl
sub-turned f (inf s) (fin t n d) = inl (ap inf (sym (not-not s)))
sub-turned f (fin s m e) nan = inl refl
sub-turned f (fin s m e) (inf t) = inl refl
sub-turned f (fin s m e) (fin t n d) = rw (mul_comm (down d) (down e)) (go s t)
  where
    a : ℕ
    a = m * up e * down d

    b : ℕ
    b = n * up d * down e

    C : 0 < down e * down d
    C = mul-pos (down_pos e) (down_pos d)

    go : (s t : Bool) → Turned (sum f s a (not t) b (down e * down d)) (sum f t b (not s) a (down e * down d))
    go true true = turned-sum f true a b _ C (three a b)
    go false false = turned-sum f false a b _ C (three a b)
    go true false = inl (like-sum f true a b _)
    go false true = inl (like-sum f false a b _)

-- x + (−x)
pub add-neg-self : (f : Format) (x : Float) → T (finite x) → add f x (neg x) ≡ fin false 0 (pos 0)
unfolding add neg
add-neg-self f nan h = absurd h
add-neg-self f (inf s) h = absurd h
add-neg-self f (fin s m e) h = sum_same f s (m * up e * down e) (m * up e * down e) (down e * down e) (mul-pos (down_pos e) (down_pos e)) refl

-- ---- size, and zero as plus zero

pub abs_neg : (x : Float) → abs (neg x) ≡ abs x
unfolding abs neg
abs_neg nan = refl
abs_neg (inf s) = refl
abs_neg (fin s m e) = refl

pub abs-plus : (x : Float) → abs (plus_zero x) ≡ abs x
unfolding abs plus_zero
abs-plus nan = refl
abs-plus (inf s) = refl
abs-plus (fin s zero e) = refl
abs-plus (fin s (suc m) e) = refl

pub abs-finite : (x : Float) → finite (abs x) ≡ finite x
unfolding abs
abs-finite nan = refl
abs-finite (inf s) = refl
abs-finite (fin s m e) = refl

pub plus-finite : (x : Float) → T (finite x) → T (finite (plus_zero x))
unfolding plus_zero
plus-finite nan h = h
plus-finite (inf s) h = h
plus-finite (fin s zero e) h = tt
plus-finite (fin s (suc m) e) h = tt

pub plus-neg-plus : (x : Float) → plus_zero (neg (plus_zero x)) ≡ plus_zero (neg x)
unfolding plus_zero neg
plus-neg-plus nan = refl
plus-neg-plus (inf s) = refl
plus-neg-plus (fin s zero e) = refl
plus-neg-plus (fin s (suc m) e) = refl

-- of two floats written with plus zero, one the other's negation, the sum is plus zero
pub plus-sum-zero : (x y : Float) → T (fits binary64 x) → T (finite x) → plus_zero y ≡ plus_zero (neg x)
    → add binary64 (plus_zero x) (plus_zero y) ≡ fin false 0 (pos 0)
unfolding plus_zero neg
plus-sum-zero nan y t p e = absurd p
plus-sum-zero (inf s) y t p e = absurd p
plus-sum-zero (fin s zero d) y t p e = rw (e, zero_exp binary64 s d t) (unfold add in refl)
plus-sum-zero (fin s (suc m) d) y t p e = rw e (add-neg-self binary64 (fin s (suc m) d) tt)
