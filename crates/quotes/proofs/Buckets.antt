-- The bucket: the least of a search, by one division, and of exchanged sizes.
use Prim.Native.Nat.{ℕ, zero, suc, ◌+◌, ◌-◌, ◌*◌, ◌/◌, ◌%◌, ◌≤◌, ◌<◌}
use mathlib.Core.Path.{◌≡◌, sym, ap, ◌∙◌}
use mathlib.Core.Bool.{Bool, true, false, cond}
use mathlib.Core.Logic.{⊎_elim}
use native.Mathlib.Omega.{arith}
use native.Mathlib.Nat.{le_refl, eq-or-lt_of_le, mod-lt, mul-le-mul_left, mul-le-mul_right, mul-lt-mul_of_pos_left, div-add-mod', add-mul, mul-add, mul_comm, div-lt_iff_lt-mul}
use lib.Dec.{leb}
use borrow.Author.Tests.{le-leb, lt-leb}
use Rattle.quotes.specs.States.{least_from, lower_bucket, bucket_of}
use Rattle.basics.proofs.Tests.{le-or-lt}

pick-le : (t : Bool) {a b n : ℕ} → a ≤ n → b ≤ n → cond t a b ≤ n
pick-le true p q = p
pick-le false p q = q

module _ (p : ℕ → Bool) where
  least-le : (k j : ℕ) → least_from p j k ≤ j + k
  least-le zero j = omega arith
  least-le (suc k) j = pick-le (p j) (omega arith) (omega (arith, least-le k (suc j)))

  -- a number at which the test holds, with none before it, is the least
  least_at : (k j m : ℕ) → j ≤ m → m < j + k → p m ≡ true → ((x : ℕ) → j ≤ x → x < m → p x ≡ false) → least_from p j k ≡ m
  least_at zero j m a b t none = absurd (omega arith)
  least_at (suc k) j m a b t none =
      ⊎_elim
      (λ e. let f : p j ≡ true = ap p e ∙ t in rw f e)
      (λ l. rw (none j (le_refl j) l, least_at k (suc j) m (omega arith) (omega arith) t (λ x u v. none x (omega arith) v)))
      (eq-or-lt_of_le a)

pub lower-le : (lighter heavier n : ℕ) → lower_bucket lighter heavier n ≤ n - 1
lower-le lighter heavier n = omega (arith, least-le (λ j. leb (lighter * n) ((lighter + heavier) * j)) (n - 1) 1)

pub bucket-le : (bid ask n : ℕ) → bucket_of bid ask n ≤ n - 1
bucket-le bid ask n = pick-le (leb bid ask) (lower-le bid ask n) (omega arith)

-- the search's answer is one division's
pub by-division : (lighter heavier n : ℕ) → lighter ≤ heavier → 1 ≤ heavier → 2 ≤ n → lower_bucket lighter heavier n ≡ (lighter * n - 1) / (lighter + heavier)
by-division lighter heavier n half some two =
    let total = lighter + heavier in
    let s = lighter * n in
    let m = (s - 1) / total in
    let e = div-add-mod' (s - 1) total in
    let l : (s - 1) % total < total = mod-lt (s - 1) (omega arith) in
    let up : total * (m + 1) ≡ m * total + total = omega (arith, mul_comm total (m + 1), add-mul m 1 total) in
    let n-is : n - 1 + 1 ≡ n = omega arith in
    let whole : n * total ≡ (n - 1) * total + total = omega (arith, ap (λ k. k * total) n-is, add-mul (n - 1) 1 total) in
    let twice : s + s ≤ total * n = omega (arith, mul-le-mul_right {m = lighter + lighter} {n = total} n (omega arith), add-mul lighter lighter n) in
    let under : s - 1 < (n - 1) * total =
    omega (arith, twice, mul_comm total n, whole, mul-le-mul_right {m = 1} {n = n - 1} total (omega arith)) in
    let found : least_from (λ j. leb s (total * j)) 1 (n - 1) ≡ m + 1 =
    least_at (λ j. leb s (total * j)) (n - 1) 1 (m + 1) (omega arith)
    (omega (arith, (div-lt_iff_lt-mul {k = total} {x = s - 1} {y = n - 1} (omega arith)).1 under))
    (le-leb s (total * (m + 1)) (omega (arith, up, e, l)))
    (λ x a b. lt-leb s (total * x)
    (omega (arith, mul_comm total x, mul-le-mul_right {m = x} {n = m} total (omega arith), mul-le-mul_right {m = 1} {n = x} total a, e))) in
    omega (arith, found)

double : (a m : ℕ) → (a + a) * m ≡ a * (m + m)
double a m = add-mul a a m ∙ sym (mul-add a m m)

-- equal sizes, n odd: the middle bucket
middle : (a n : ℕ) → 1 ≤ a → 3 ≤ n → n % 2 ≡ 1 → lower_bucket a a n ≡ n / 2
middle a n h l odd =
    let found : least_from (λ j. leb (a * n) ((a + a) * j)) 1 (n - 1) ≡ n / 2 + 1 =
    least_at (λ j. leb (a * n) ((a + a) * j)) (n - 1) 1 (n / 2 + 1) (omega arith) (omega arith)
    (le-leb (a * n) ((a + a) * (n / 2 + 1)) (rw double (mul-le-mul_left a (omega arith))))
    (λ x u v. lt-leb (a * n) ((a + a) * x) (rw double (mul-lt-mul_of_pos_left {k = a} (omega arith) h))) in
    omega (arith, found)

-- the bucket of exchanged sizes is the mirrored bucket
pub bucket-exchanged : (bid ask n : ℕ) → 1 ≤ bid + ask → 3 ≤ n → n % 2 ≡ 1 → bucket_of ask bid n ≡ n - 1 - bucket_of bid ask n
bucket-exchanged bid ask n h l odd =
    ⊎_elim
    (λ u.
    ⊎_elim
    (λ v.
    let e : ask ≡ bid = omega arith in
    rw (e, le-leb bid bid (omega arith), middle bid n (omega arith) l odd) (omega arith))
    (λ v. rw (lt-leb ask bid v, le-leb bid ask u))
    (le-or-lt ask bid))
    (λ u. rw (le-leb ask bid (omega arith), lt-leb bid ask u) (omega (arith, lower-le ask bid n)))
    (le-or-lt bid ask)
