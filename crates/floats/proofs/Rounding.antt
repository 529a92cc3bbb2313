-- A value of a format is written in one way and rounds to itself, so what lies between two values of the format rounds to a value between them.
use mathlib.Core.Path.{◌≡◌, refl, sym, ap, ◌∙◌, subst}
use mathlib.Core.Bool.{Bool, ◌&&◌}
use Prim.Native.Nat.{ℕ, zero, suc, ◌+◌, ◌-◌, ◌*◌, ◌%◌, ◌^◌, ◌<◌, ◌≤◌}
use native.Mathlib.Nat.{mul-one, zero-mul, mul-pos, lt_irrefl, zero-lt-suc, mul_comm, mul_assoc, mul_right_comm, mul_left_comm, le_of_suc-le-suc, not-le_of_lt, lt_of_not-le, mul-lt-mul_of_pos_right, lt_of_mul-lt-mul_right, eq_of_mul-eq-mul_right, pow-succ', pow-suc}
use native.Mathlib.Omega.{arith}
use lib.IntN.{ℤ, pos, negsuc}
use lib.Pow.{pow_pos, pow-add, pow-lt}
use lib.Dec.{T, ltb, eqb, leb, eqb→eq, ltb→lt, leb→le}
use lib.Ieee.{Float, nan, inf, fin, Format, up, down, round, le, fits, prec, low, emax}
use lib.Ieee.Digits.{back}
use lib.Ieee.Fits.{and_l, and_r, down_pos, round-fits}
use lib.Ieee.Exact.{HasValue, round_exact}
use Rattle.floats.proofs.Signs.{zero_exp, zero-value, round-zero}
use Rattle.floats.proofs.Order.{SLe, round-smono, round-scale}

-- ---- what fitting says of an m above 0
record Held (f : Format) (m : ℕ) (e : ℤ) : Type 0 where
  odd : m % 2 ≡ 1
  few : m < 2 ^ prec f
  fine : down e ≤ 2 ^ low f
  under : m * up e < 2 ^ suc (emax f) * down e

held : (f : Format) (s : Bool) (m : ℕ) (e : ℤ) → T (fits f (fin s (suc m) e)) → Held f (suc m) e
unfolding fits
held f s m e t =
    let a = eqb (suc m % 2) 1 in
    let b = ltb (suc m) (2 ^ prec f) in
    let c = leb (down e) (2 ^ low f) in
    let d = ltb (suc m * up e) (2 ^ suc (emax f) * down e) in
    record {
      odd = eqb→eq (suc m % 2) 1 (and_l a b (and_l (a && b) c (and_l (a && b && c) d t)));
      few = ltb→lt (suc m) (2 ^ prec f) (and_r a b (and_l (a && b) c (and_l (a && b && c) d t)));
      fine = leb→le (down e) (2 ^ low f) (and_r (a && b) c (and_l (a && b && c) d t));
      under = ltb→lt (suc m * up e) (2 ^ suc (emax f) * down e) (and_r (a && b && c) d t);
    }

-- ---- one way
even_odd : (m t : ℕ) → m % 2 ≡ 1 → m ≡ 2 * t → ⊥
even_odd m t o h = omega arith

even-suc : (m n b : ℕ) → m % 2 ≡ 1 → m ≡ n * 2 ^ suc b → ⊥
even-suc m n b o h = even_odd m (n * 2 ^ b) o (h ∙ ap (λ (x : ℕ). n * x) (pow-succ' 2 b) ∙ mul_left_comm n 2 (2 ^ b))

odd_pow : (m n a b : ℕ) → m % 2 ≡ 1 → n % 2 ≡ 1 → m * 2 ^ a ≡ n * 2 ^ b → (m ≡ n) × (a ≡ b)
odd_pow m n zero zero o p h = (sym (mul-one m) ∙ h ∙ mul-one n, refl)
odd_pow m n zero (suc b) o p h = absurd (even-suc m n b o (sym (mul-one m) ∙ h))
odd_pow m n (suc a) zero o p h = absurd (even-suc n m a p (sym (mul-one n) ∙ sym h))
odd_pow m n (suc a) (suc b) o p h =
    let r = odd_pow m n a b o p (eq_of_mul-eq-mul_right 2 (zero-lt-suc 1) (m * 2 ^ a) (n * 2 ^ b)
    (mul_assoc m (2 ^ a) 2 ∙ ap (λ (x : ℕ). m * x) (sym (pow-suc 2 a)) ∙ h ∙ ap (λ (x : ℕ). n * x) (pow-suc 2 b) ∙ sym (mul_assoc n (2 ^ b) 2))) in
    (r.0, ap suc r.1)

odd-exp : (m n : ℕ) (e d : ℤ) → m % 2 ≡ 1 → n % 2 ≡ 1 → m * up e * down d ≡ n * up d * down e → (m ≡ n) × (e ≡ d)
odd-exp m n (pos a) (pos b) o p h = let r = odd_pow m n a b o p (sym (mul-one (m * 2 ^ a)) ∙ h ∙ mul-one (n * 2 ^ b)) in (r.0, ap pos r.1)
odd-exp m n (pos a) (negsuc l) o p h =
    absurd (even-suc n (m * 2 ^ a) l p (sym (mul-one n) ∙ sym (mul-one (n * 1)) ∙ sym h))
odd-exp m n (negsuc k) (pos b) o p h =
    absurd (even-suc m (n * 2 ^ b) k o (sym (mul-one m) ∙ sym (mul-one (m * 1)) ∙ h))
odd-exp m n (negsuc k) (negsuc l) o p h =
    let r = odd_pow m n (suc l) (suc k) o p (ap (λ (x : ℕ). x * 2 ^ suc l) (sym (mul-one m)) ∙ h ∙ ap (λ (x : ℕ). x * 2 ^ suc k) (mul-one n)) in
    let q : k ≡ l = (let z : suc l ≡ suc k = r.1 in omega arith) in
    (r.0, ap negsuc q)

cross : (m n c a : ℕ) (e d : ℤ) → 0 < c → m * up e * c ≡ a * down e → n * up d * c ≡ a * down d → m * up e * down d ≡ n * up d * down e
cross m n c a e d C h k =
    eq_of_mul-eq-mul_right c C (m * up e * down d) (n * up d * down e)
    (mul_right_comm (m * up e) (down d) c ∙ ap (λ (x : ℕ). x * down d) h ∙ mul_right_comm a (down e) (down d) ∙ ap (λ (x : ℕ). x * down e) (sym k)
    ∙ mul_right_comm (n * up d) c (down e))

size-zero : (e : ℤ) (a c : ℕ) → 0 * up e * c ≡ a * down e → a ≡ 0
size-zero e zero c h = refl
size-zero e (suc a) c h = absurd
    (lt_irrefl 0 (subst (λ (x : ℕ). 0 < x) (sym h ∙ ap (λ (y : ℕ). y * c) (zero-mul (up e)) ∙ zero-mul c) (mul-pos (zero-lt-suc a) (down_pos e))))

both_zero : (f : Format) (x y : Float) (s : Bool) (a c : ℕ) → 0 < c → T (fits f x) → T (fits f y) → HasValue x s a c → HasValue y s a c → a ≡ 0 → x ≡ y
both_zero f x y s a c C p q v w z =
    zero-value f x s c C p (subst (λ (k : ℕ). HasValue x s k c) z v) ∙ sym (zero-value f y s c C q (subst (λ (k : ℕ). HasValue y s k c) z w))

-- two values of a format that are the same number with the same sign are the same
pub value-unique : (f : Format) (x y : Float) (s : Bool) (a c : ℕ) → 0 < c → T (fits f x) → T (fits f y) → HasValue x s a c → HasValue y s a c → x ≡ y
value-unique f nan y s a c C p q v w = absurd v
value-unique f (inf t) y s a c C p q v w = absurd v
value-unique f (fin t m e) nan s a c C p q v w = absurd w
value-unique f (fin t m e) (inf u) s a c C p q v w = absurd w
value-unique f (fin t zero e) (fin u n d) s a c C p q v w = both_zero f (fin t zero e) (fin u n d) s a c C p q v w (size-zero e a c v.1)
value-unique f (fin t (suc m) e) (fin u zero d) s a c C p q v w = both_zero f (fin t (suc m) e) (fin u zero d) s a c C p q v w (size-zero d a c w.1)
value-unique f (fin t (suc m) e) (fin u (suc n) d) s a c C p q v w =
    let r = odd-exp (suc m) (suc n) e d (held f t m e p).odd (held f u n d q).odd (cross (suc m) (suc n) c a e d C v.1 w.1) in
    λ i. fin ((v.0 ∙ sym w.0) i) (r.0 i) (r.1 i)

-- ---- a value rounds to itself
exp-low : (k l : ℕ) → 2 ^ k ≤ 2 ^ l → k ≤ l
exp-low k l h = le_of_suc-le-suc (lt_of_not-le (λ (g : suc l ≤ k). not-le_of_lt (pow-lt g) h))

own_value : (s : Bool) (m : ℕ) (e : ℤ) → HasValue (fin s m e) s (m * up e) (down e)
own_value s m e = (refl, refl)

exact-up : (f : Format) (s : Bool) (m a : ℕ) → Held f m (pos a) → HasValue (round f s (m * 2 ^ a) 1) s (m * 2 ^ a) 1
exact-up f s m a h =
    let l = low f in
    let t : m * 2 ^ a < 2 ^ suc (emax f) = subst (λ (x : ℕ). m * 2 ^ a < x) (mul-one (2 ^ suc (emax f))) h.under in
    let p : m * 2 ^ a * 2 ^ l ≡ m * 2 ^ (a + l) = mul_assoc m (2 ^ a) (2 ^ l) ∙ ap (λ (x : ℕ). m * x) (sym (pow-add 2 a l)) in
    let u : 2 ^ suc (emax f) * 2 ^ l ≡ 2 ^ (l + suc (emax f)) = mul_comm (2 ^ suc (emax f)) (2 ^ l) ∙ sym (pow-add 2 l (suc (emax f))) in
    round_exact f s (m * 2 ^ a) 1 m (a + l) (zero-lt-suc 0) h.few
    (subst (λ (x : ℕ). x < 2 ^ (l + suc (emax f))) p (subst (λ (x : ℕ). m * 2 ^ a * 2 ^ l < x) u (mul-lt-mul_of_pos_right t (pow_pos l))))
    (p ∙ sym (mul-one (m * 2 ^ (a + l))))

exact-down : (f : Format) (s : Bool) (m k : ℕ) → Held f m (negsuc k) → HasValue (round f s (m * 1) (2 ^ suc k)) s (m * 1) (2 ^ suc k)
exact-down f s m k h =
    let l = low f in
    let j = l - suc k in
    let le : suc k ≤ l = exp-low (suc k) l h.fine in
    let w : 2 ^ j * 2 ^ suc k ≡ 2 ^ l = sym (pow-add 2 j (suc k)) ∙ ap (λ (x : ℕ). 2 ^ x) (back l (suc k) le) in
    let p : m * 2 ^ j * 2 ^ suc k ≡ m * 2 ^ l = mul_assoc m (2 ^ j) (2 ^ suc k) ∙ ap (λ (x : ℕ). m * x) w in
    let t : m * 2 ^ l < 2 ^ suc (emax f) * 2 ^ suc k * 2 ^ l =
    mul-lt-mul_of_pos_right (subst (λ (x : ℕ). x < 2 ^ suc (emax f) * 2 ^ suc k) (mul-one m) h.under) (pow_pos l) in
    let u : 2 ^ suc (emax f) * 2 ^ suc k * 2 ^ l ≡ 2 ^ (l + suc (emax f)) * 2 ^ suc k
    = mul_right_comm (2 ^ suc (emax f)) (2 ^ suc k) (2 ^ l)
    ∙ ap (λ (x : ℕ). x * 2 ^ suc k) (mul_comm (2 ^ suc (emax f)) (2 ^ l) ∙ sym (pow-add 2 l (suc (emax f)))) in
    round_exact f s (m * 1) (2 ^ suc k) m j (pow_pos (suc k)) h.few
    (lt_of_mul-lt-mul_right (2 ^ suc k) (subst (λ (x : ℕ). x < 2 ^ (l + suc (emax f)) * 2 ^ suc k) (sym p) (subst (λ (x : ℕ). m * 2 ^ l < x) u t)))
    (ap (λ (x : ℕ). x * 2 ^ l) (mul-one m) ∙ sym p)

pub round-own : (f : Format) (s : Bool) (m : ℕ) (e : ℤ) → T (fits f (fin s m e)) → round f s (m * up e) (down e) ≡ fin s m e
round-own f s zero e t =
    ap (λ (x : ℕ). round f s x (down e)) (zero-mul (up e)) ∙ round-zero f s (down e) (down_pos e) ∙ sym (ap (fin s zero) (zero_exp f s e t))
round-own f s (suc m) (pos a) t =
    value-unique f (round f s (suc m * 2 ^ a) 1) (fin s (suc m) (pos a)) s (suc m * 2 ^ a) 1 (zero-lt-suc 0) (round-fits f s (suc m * 2 ^ a) 1) t
    (exact-up f s (suc m) a (held f s m (pos a) t)) (own_value s (suc m) (pos a))
round-own f s (suc m) (negsuc k) t =
    value-unique f (round f s (suc m * 1) (2 ^ suc k)) (fin s (suc m) (negsuc k)) s (suc m * 1) (2 ^ suc k) (pow_pos (suc k))
    (round-fits f s (suc m * 1) (2 ^ suc k)) t
    (exact-down f s (suc m) k (held f s m (negsuc k) t)) (own_value s (suc m) (negsuc k))

-- ---- what is at most a value of the format rounds to at most it, and so from below: ±a / c against ±n * 2 ^ d
pub round-below : (f : Format) (s : Bool) (a c : ℕ) (t : Bool) (n : ℕ) (d : ℤ) → 0 < c → T (fits f (fin t n d)) → SLe s (a * down d) t (n * up d * c)
    → T (le (round f s a c) (fin t n d))
round-below f s a c t n d C p h =
    let x : round f s a c ≡ round f s (a * down d) (c * down d) = round-scale f s a c (down d) C (down_pos d) in
    let y : fin t n d ≡ round f t (n * up d * c) (c * down d) =
    sym (round-own f t n d p) ∙ round-scale f t (n * up d) (down d) c (down_pos d) C ∙ ap (λ (z : ℕ). round f t (n * up d * c) z) (mul_comm (down d) c) in
    rw (x, y) (round-smono f s t (a * down d) (n * up d * c) (c * down d) (mul-pos C (down_pos d)) h)

pub round-above : (f : Format) (s : Bool) (a c : ℕ) (t : Bool) (n : ℕ) (d : ℤ) → 0 < c → T (fits f (fin t n d)) → SLe t (n * up d * c) s (a * down d)
    → T (le (fin t n d) (round f s a c))
round-above f s a c t n d C p h =
    let x : round f s a c ≡ round f s (a * down d) (c * down d) = round-scale f s a c (down d) C (down_pos d) in
    let y : fin t n d ≡ round f t (n * up d * c) (c * down d) =
    sym (round-own f t n d p) ∙ round-scale f t (n * up d) (down d) c (down_pos d) C ∙ ap (λ (z : ℕ). round f t (n * up d * c) z) (mul_comm (down d) c) in
    rw (x, y) (round-smono f t s (n * up d * c) (a * down d) (c * down d) (mul-pos C (down_pos d)) h)
