-- The mid plus an adjustment of at most half the spread, rounded once, lies from the bid to the ask.
use mathlib.Core.Path.{◌≡◌, sym, ap, ◌∙◌, subst}
use mathlib.Core.Bool.{Bool, true, false, not, true≢false}
use Prim.Native.Nat.{ℕ, ◌+◌, ◌-◌, ◌*◌, ◌<◌, ◌≤◌}
use native.Mathlib.Nat.{mul-pos, zero-lt-suc, mul_comm, mul_assoc, mul_left_comm, add-mul, le_refl}
use native.Mathlib.Omega.{arith}
use borrow.Author.Tests.{le-ltb}
use lib.IntN.{pos}
use lib.Dec.{T}
use lib.Ieee.{Float, nan, inf, fin, Format, binary64, up, down, neg, add, sum, round, le, is_nan, of_int}
use lib.Ieee.Fits.{down_pos}
use lib.Ieee.Exact.{HasValue}
use lib.Ieee.Order.{transfer}
use lib.Ieee.Scale.{finite, round_same}
use Rattle.floats.specs.Floats.{abs, from_int, half, exact_whole}
use Rattle.floats.proofs.Signs.{abs_neg, neg-neg, sum_like}
use Rattle.floats.proofs.Order.{sub-times, le-trans-float, le-neg, le→sizes, sizes→le, add-mono}
use Rattle.floats.proofs.Whole.{half-exact}

-- ---- a sum and a difference, by the fractions that the operands equal

-- X / e = a / c and Y / g = b / d over common denominators
crossed : (X e g a c d : ℕ) → X * c ≡ a * e → X * g * (c * d) ≡ a * d * (e * g)
crossed X e g a c d p = simp (mul_assoc, mul_comm, mul_left_comm) (simp (mul_assoc, mul_comm, mul_left_comm) at (ap (λ (z : ℕ). z * (g * d)) p))

pub add_at_lem : (f : Format) (x y : Float) (a c b d : ℕ) → 0 < c → 0 < d → HasValue x false a c → HasValue y false b d
    → add f x y ≡ round f false (a * d + b * c) (c * d)
unfolding add
add_at_lem f nan y a c b d C D v w = absurd v
add_at_lem f (inf s) y a c b d C D v w = absurd v
add_at_lem f (fin true m e) y a c b d C D v w = absurd (true≢false v.0)
add_at_lem f (fin false m e) nan a c b d C D v w = absurd w
add_at_lem f (fin false m e) (inf t) a c b d C D v w = absurd w
add_at_lem f (fin false m e) (fin true n g) a c b d C D v w = absurd (true≢false w.0)
add_at_lem f (fin false m e) (fin false n g) a c b d C D v w =
    let X = m * up e in
    let Y = n * up g in
    let x : X * down g * (c * d) ≡ a * d * (down e * down g) = crossed X (down e) (down g) a c d v.1 in
    let y : Y * down e * (c * d) ≡ b * c * (down e * down g) = rw (mul_comm c d, mul_comm (down e) (down g)) (crossed Y (down g) (down e) b d c w.1) in
    sum_like f false (X * down g) (Y * down e) (down e * down g)
    ∙ round_same f false (X * down g + Y * down e) (down e * down g) (a * d + b * c) (c * d) (mul-pos (down_pos e) (down_pos g)) (mul-pos C D)
    (rw (add-mul (X * down g) (Y * down e) (c * d), x, y) (sym (add-mul (a * d) (b * c) (down e * down g))))

drop-sum : (f : Format) (a b c : ℕ) → b ≤ a → sum f false a true b c ≡ round f false (a - b) c
unfolding sum
drop-sum f a b c h = rw (le-ltb a b h)

pub sub_at : (f : Format) (x y : Float) (a c b d : ℕ) → 0 < c → 0 < d → HasValue x false a c → HasValue y false b d → b * c ≤ a * d
    → add f x (neg y) ≡ round f false (a * d - b * c) (c * d)
unfolding add neg
sub_at f nan y a c b d C D v w h = absurd v
sub_at f (inf s) y a c b d C D v w h = absurd v
sub_at f (fin true m e) y a c b d C D v w h = absurd (true≢false v.0)
sub_at f (fin false m e) nan a c b d C D v w h = absurd w
sub_at f (fin false m e) (inf t) a c b d C D v w h = absurd w
sub_at f (fin false m e) (fin true n g) a c b d C D v w h = absurd (true≢false w.0)
sub_at f (fin false m e) (fin false n g) a c b d C D v w h =
    let X = m * up e in
    let Y = n * up g in
    let x : X * down g * (c * d) ≡ a * d * (down e * down g) = crossed X (down e) (down g) a c d v.1 in
    let y : Y * down e * (c * d) ≡ b * c * (down e * down g) = rw (mul_comm c d, mul_comm (down e) (down g)) (crossed Y (down g) (down e) b d c w.1) in
    drop-sum f (X * down g) (Y * down e) (down e * down g) (transfer Y X (down g) (down e) b a d c D C w.1 v.1 h)
    ∙ round_same f false (X * down g - Y * down e) (down e * down g) (a * d - b * c) (c * d) (mul-pos (down_pos e) (down_pos g)) (mul-pos C D)
    (rw (sub-times (X * down g) (Y * down e) (c * d), x, y) (sym (sub-times (a * d) (b * c) (down e * down g))))

-- ---- size and order

pub le-abs : (x : Float) → T (not (is_nan x)) → T (le x (abs x))
unfolding abs le is_nan
le-abs nan h = absurd h
le-abs (inf true) h = tt
le-abs (inf false) h = tt
le-abs (fin true m e) h = sizes→le true false m m e e (omega arith)
le-abs (fin false m e) h = sizes→le false false m m e e (le_refl _)

pub finite-under : (x h : Float) → T (finite h) → T (le (abs x) h) → T (finite x)
unfolding abs le
finite-under nan h p k = absurd k
finite-under (inf s) nan p k = absurd p
finite-under (inf s) (inf t) p k = absurd p
finite-under (inf s) (fin t n d) p k = absurd k
finite-under (fin s m e) h p k = tt

pub finite-no-nan : (x : Float) → T (finite x) → T (not (is_nan x))
unfolding is_nan
finite-no-nan nan h = absurd h
finite-no-nan (inf s) h = absurd h
finite-no-nan (fin s m e) h = tt

pub finite-neg : (x : Float) → T (finite x) → T (finite (neg x))
unfolding neg
finite-neg nan h = absurd h
finite-neg (inf s) h = absurd h
finite-neg (fin s m e) h = tt

-- a size of at most h: from −h to h
pub size-bounds : (x h : Float) → T (finite x) → T (le (abs x) h) → T (le x h) × T (le (neg h) x)
size-bounds x h p k = (
  le-trans-float x (abs x) h (le-abs x (finite-no-nan x p)) k,
  le-trans-float (neg h) (neg (abs x)) x (le-neg (abs x) h k)
      (rw neg-neg at (le-neg (neg x) (abs x) (rw abs_neg at (le-abs (neg x) (finite-no-nan (neg x) (finite-neg x p)))))),
)

pub value-finite : (x : Float) (s : Bool) (a c : ℕ) → HasValue x s a c → T (finite x)
value-finite nan s a c v = v
value-finite (inf t) s a c v = v
value-finite (fin t m e) s a c v = tt

-- the order of two floats that are not below zero is that of the fractions they equal
pub values-le : (x y : Float) (a c b d : ℕ) → HasValue x false a c → HasValue y false b d → T (le x y) → a * d ≤ b * c
values-le nan y a c b d v w h = absurd v
values-le (inf s) y a c b d v w h = absurd v
values-le (fin true m e) y a c b d v w h = absurd (true≢false v.0)
values-le (fin false m e) nan a c b d v w h = absurd w
values-le (fin false m e) (inf t) a c b d v w h = absurd w
values-le (fin false m e) (fin true n g) a c b d v w h = absurd (true≢false w.0)
values-le (fin false m e) (fin false n g) a c b d v w h =
    transfer a b c d (m * up e) (n * up g) (down e) (down g) (down_pos e) (down_pos g) (sym v.1) (sym w.1)
    (omega (arith, le→sizes false false m n e g h))

-- ---- the mid and half the spread make the ask and the bid

ask-is : (b a : ℕ) → b ≤ a → b + a < exact_whole → add binary64 (half (b + a)) (half (a - b)) ≡ from_int (pos a)
unfolding of_int
ask-is b a h k =
    add_at_lem binary64 (half (b + a)) (half (a - b)) (b + a) 2 (a - b) 2 (zero-lt-suc 1) (zero-lt-suc 1) (half-exact (b + a) k)
    (half-exact (a - b) (omega arith))
    ∙ round_same binary64 false ((b + a) * 2 + (a - b) * 2) 4 a 1 (zero-lt-suc 3) (zero-lt-suc 0) (omega arith)

bid-is : (b a : ℕ) → b ≤ a → b + a < exact_whole → add binary64 (half (b + a)) (neg (half (a - b))) ≡ from_int (pos b)
unfolding of_int
bid-is b a h k =
    sub_at binary64 (half (b + a)) (half (a - b)) (b + a) 2 (a - b) 2 (zero-lt-suc 1) (zero-lt-suc 1) (half-exact (b + a) k) (half-exact (a - b) (omega arith))
    (omega arith)
    ∙ round_same binary64 false ((b + a) * 2 - (a - b) * 2) 4 b 1 (zero-lt-suc 3) (zero-lt-suc 0) (omega arith)

-- one price, inside the quotes
pub inside : (b a : ℕ) (adj : Float) → b ≤ a → b + a < exact_whole → T (le (abs adj) (half (a - b)))
    → T (le (from_int (pos b)) (add binary64 (half (b + a)) adj)) × T (le (add binary64 (half (b + a)) adj) (from_int (pos a)))
inside b a adj h k t =
    let hs = half (a - b) in
    let mid = half (b + a) in
    let fm = value-finite mid false (b + a) 2 (half-exact (b + a) k) in
    let fh = value-finite hs false (a - b) 2 (half-exact (a - b) (omega arith)) in
    let fa = finite-under adj hs fh t in
    let w = size-bounds adj hs fa t in (
      subst (λ (x : Float). T (le x (add binary64 mid adj))) (bid-is b a h k) (add-mono binary64 mid (neg hs) adj fm (finite-neg hs fh) fa w.1),
      subst (λ (x : Float). T (le (add binary64 mid adj) x)) (ask-is b a h k) (add-mono binary64 mid adj hs fm fa fh w.0),
    )
