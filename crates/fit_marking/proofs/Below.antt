-- Laws of sums, tests and counts over the numbers below n.
use mathlib.Core.Path.{◌≡◌, refl, sym, ap, ◌∙◌}
use mathlib.Core.Bool.{Bool, true, false, ◌||◌, or-true, or-false, or_assoc, false≢true}
use mathlib.Core.List.{List}
use mathlib.Core.Logic.{◌⊎◌, inl, inr, ⊎_elim}
use Prim.Native.Nat.{ℕ, zero, suc, ◌+◌, ◌-◌, ◌<◌, ◌≤◌}
use native.Mathlib.Nat.{eq-or-lt_of_le, add-zero, add-suc}
use native.Mathlib.Numerals.{add-one}
use native.Mathlib.Omega.{arith}
use lib.ListN.{length, get_or}
use Rattle.basics.specs.Lists.{bit, count, any, tab, sum}
use Rattle.basics.proofs.Tests.{either, fails}
use Rattle.basics.proofs.Lists.{tab-ext, tab-get_or}
use Rattle.fit_marking.specs.Below.{sum_to, some_to}
use Rattle.fit_marking.specs.Inner.{count_to}

-- ---- sums

pub sum-none : (f : ℕ → ℕ) → sum_to 0 f ≡ 0
unfolding sum_to
sum-none f = refl

sum-snoc : (n : ℕ) (f : ℕ → ℕ) → sum (tab (suc n) f) ≡ sum (tab n f) + f n
sum-snoc zero f = omega arith
sum-snoc (suc n) f = omega (arith, sum-snoc n (λ k. f (suc k)))

sum_step : (n : ℕ) (f : ℕ → ℕ) → sum_to (suc n) f ≡ sum_to n f + f n
unfolding sum_to
sum_step n f = sum-snoc n f

pub sum_more : (n : ℕ) (f : ℕ → ℕ) → sum_to (n + 1) f ≡ sum_to n f + f n
sum_more n f = rw add-one (sum_step n f)

-- the first m, and the n after them
sum-two : (m n : ℕ) (f : ℕ → ℕ) → sum_to (m + n) f ≡ sum_to m f + sum_to n (λ k. f (m + k))
sum-two m zero f = rw (add-zero m, sum-none (λ k. f (m + k))) (omega arith)
sum-two m (suc n) f =
    let h = sum-two m n f in
    let a = sum_step (m + n) f in
    let b = sum_step n (λ k. f (m + k)) in
    rw (add-suc m n) (omega arith)

pub sum-part : (k n : ℕ) (f : ℕ → ℕ) → k ≤ n → sum_to k f ≤ sum_to n f
sum-part k n f h =
    let e : k + (n - k) ≡ n = omega arith in
    let s = rw e at (sum-two k (n - k) f) in
    omega arith

pub sum_same : (n : ℕ) (f g : ℕ → ℕ) → ((k : ℕ) → k < n → f k ≡ g k) → sum_to n f ≡ sum_to n g
unfolding sum_to
sum_same n f g e = ap sum (tab-ext n f g e)

sum-all : (l : List ℕ) → sum_to (length l) (λ k. get_or l k 0) ≡ sum l
unfolding sum_to
sum-all l = ap sum (tab-get_or l (length l) 0 refl)

-- n places of a list from a on
pub part-below : (l : List ℕ) (a n : ℕ) → a + n ≤ length l → sum_to n (λ k. get_or l (a + k) 0) ≤ sum l
part-below l a n h =
    let f = sum-two a n (λ k. get_or l k 0) in
    let g = sum-part (a + n) (length l) (λ k. get_or l k 0) h in
    let e = sum-all l in
    omega arith

-- ---- tests

pub some-none : (p : ℕ → Bool) → some_to 0 p ≡ false
unfolding some_to
some-none p = refl

any_snoc : (p : ℕ → Bool) (n : ℕ) (f : ℕ → ℕ) → any p (tab (suc n) f) ≡ any p (tab n f) || p (f n)
any_snoc p zero f = or-false (p (f 0))
any_snoc p (suc n) f = ap (λ (b : Bool). p (f 0) || b) (any_snoc p n (λ k. f (suc k)))
    ∙ sym (or_assoc (p (f 0)) (any p (tab n (λ k. f (suc k)))) (p (f (suc n))))

pub some-step : (n : ℕ) (p : ℕ → Bool) → some_to (suc n) p ≡ some_to n p || p n
unfolding some_to
some-step n p = any_snoc p n (λ k. k)

pub some_more : (n : ℕ) (p : ℕ → Bool) → some_to n p ≡ false → p n ≡ false → some_to (n + 1) p ≡ false
some_more n p a b = rw (add-one, some-step n p, a, b)

pub some_at : (n : ℕ) (p : ℕ → Bool) (k : ℕ) → k < n → p k ≡ true → some_to n p ≡ true
some_at zero p k h t = absurd (omega arith)
some_at (suc n) p k h t =
    let c : (k ≡ n) ⊎ (k < n) = eq-or-lt_of_le (omega arith) in
    some-step n p ∙ ⊎_elim (λ e. rw (← e, t) (or-true (some_to k p))) (λ l. rw (some_at n p k l t)) c

pub some-found : (n : ℕ) (p : ℕ → Bool) → some_to n p ≡ true → (k : ℕ) × (k < n) × (p k ≡ true)
some-found zero p h = absurd (false≢true (sym (some-none p) ∙ h))
some-found (suc n) p h =
    elim (either (some_to n p) (p n) (sym (some-step n p) ∙ h)) [
      | inl a ↦ let w = some-found n p a in (w.0, omega arith, w.2)
      | inr b ↦ (n, omega arith, b)
    ]

pub some-not : (n : ℕ) (p : ℕ → Bool) → some_to n p ≡ false → (k : ℕ) → k < n → p k ≡ false
some-not n p h k l = fails (p k) (λ t. false≢true (sym h ∙ some_at n p k l t))

-- ---- counts

count_none : (p : ℕ → Bool) → count_to 0 p ≡ 0
unfolding count_to
count_none p = refl

count-snoc : (p : ℕ → Bool) (n : ℕ) (f : ℕ → ℕ) → count p (tab (suc n) f) ≡ count p (tab n f) + bit (p (f n))
count-snoc p zero f = omega arith
count-snoc p (suc n) f = omega (arith, count-snoc p n (λ k. f (suc k)))

count-step : (n : ℕ) (p : ℕ → Bool) → count_to (suc n) p ≡ count_to n p + bit (p n)
unfolding count_to
count-step n p = count-snoc p n (λ k. k)

bit-most : (b : Bool) → bit b ≤ 1
bit-most true = omega arith
bit-most false = omega arith

bit-grows : (a b : Bool) → (a ≡ true → b ≡ true) → bit a ≤ bit b
bit-grows true b h = rw (h refl) (omega arith)
bit-grows false b h = omega arith

pub count_most : (n : ℕ) (p : ℕ → Bool) → count_to n p ≤ n
count_most zero p = omega (arith, count_none p)
count_most (suc n) p = omega (arith, count-step n p, count_most n p, bit-most (p n))

count-grows : (n : ℕ) (p q : ℕ → Bool) → ((k : ℕ) → k < n → p k ≡ true → q k ≡ true) → count_to n p ≤ count_to n q
count-grows zero p q h = omega (arith, count_none p, count_none q)
count-grows (suc n) p q h =
    let r = count-grows n p q (λ k l. h k (omega arith)) in
    let s = bit-grows (p n) (q n) (h n (omega arith)) in
    omega (arith, count-step n p, count-step n q)

-- more numbers pass q than p if x passes q alone
pub count_less : (n : ℕ) (p q : ℕ → Bool) (x : ℕ) → ((k : ℕ) → k < n → p k ≡ true → q k ≡ true) → x < n → p x ≡ false → q x ≡ true → count_to n p < count_to n q
count_less zero p q x h l a b = absurd (omega arith)
count_less (suc n) p q x h l a b =
    let c : (x ≡ n) ⊎ (x < n) = eq-or-lt_of_le (omega arith) in
    elim c [
      | inl e ↦
          let r = count-grows n p q (λ k g. h k (omega arith)) in
          let s : bit (p n) < bit (q n) = rw (← e, a, b) (omega arith) in
          omega (arith, count-step n p, count-step n q)
      | inr g ↦
          let r = count_less n p q x (λ k g. h k (omega arith)) g a b in
          let s = bit-grows (p n) (q n) (h n (omega arith)) in
          omega (arith, count-step n p, count-step n q)
    ]
