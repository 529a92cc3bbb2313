-- Walks by one over tests at numbers, and two walks over the same answers. Steps of a walk over checks are in refusals.
use Prim.Native.Nat.{ℕ, zero, suc, ◌+◌, ◌-◌, ◌≤◌, ◌<◌}
use mathlib.Core.Path.{◌≡◌, refl, subst, ap}
use mathlib.Core.Bool.{Bool, true, ◌&&◌, ◌||◌}
use mathlib.Core.List.{List}
use mathlib.Core.Logic.{⊎_elim}
use native.Mathlib.Omega.{arith}
use native.Mathlib.Numerals.{add-one}
use lib.ListN.{length, get_or, drop, drop_of_length-le}
use lib.Seq.{drop-cons}
use Rattle.std.specs.List.{range_with_len, list_any, list_all}
use Rattle.basics.specs.Lists.{any, all_from}
use Rattle.basics.proofs.Tests.{both, le-or-lt, still}
use Rattle.refusals.specs.Refusals.{first_of, first_from, Check}

module _ (p : ℕ → Bool) where
  pub all-step : (i m : ℕ) → i < m → p i ≡ true → all_from p i (m - i) ≡ all_from p (i + 1) (m - (i + 1))
  all-step i m h t = rw (still i m h, t, add-one)

  -- where all hold, each does
  pub all-at : (i n k : ℕ) → all_from p i n ≡ true → i ≤ k → k < i + n → p k ≡ true
  all-at i zero k e l h = absurd (omega arith)
  all-at i (suc n) k e l h =
      let b = both (p i) (all_from p (suc i) n) e in
      ⊎_elim (λ (g : k ≤ i). subst (λ (j : ℕ). p j ≡ true) (let z : i ≡ k = omega arith in z) b.0)
      (λ (g : i < k). all-at (suc i) n k b.1 (omega arith) (omega arith))
      (le-or-lt k i)

  -- a test of n numbers from i on
  pub all-range : (i n : ℕ) → list_all p (range_with_len i n) ≡ all_from p i n
  all-range i zero = refl
  all-range i (suc n) = rw add-one (ap (λ b. p i && b) (all-range (suc i) n))

-- a test of the elements of a list from place i on, by their places
pub any-range : {A : Type 0} (p : A → Bool) (d : A) (l : List A) (i n : ℕ) → length l ≡ i + n
    → list_any (λ k. p (get_or l k d)) (range_with_len i n) ≡ any p (drop i l)
any-range p d l i zero e = rw (drop_of_length-le l (let z : length l ≤ i = omega arith in z)) refl
any-range p d l i (suc n) e =
    let h : i < length l = omega arith in
    rw (drop-cons l i d h, add-one) (ap (λ b. p (get_or l i d) || b) (any-range p d l (suc i) n (omega arith)))

-- walks over the same answers
pub all-ext : (p q : ℕ → Bool) (i k : ℕ) → ((j : ℕ) → j < i + k → p j ≡ q j) → all_from p i k ≡ all_from q i k
all-ext p q i zero h = refl
all-ext p q i (suc k) h = λ t. h i (omega arith) t && all-ext p q (suc i) k (λ j b. h j (omega arith)) t

pub first-ext : (f g : ℕ → Check) (i k : ℕ) → ((j : ℕ) → j < i + k → f j ≡ g j) → first_from f i k ≡ first_from g i k
first-ext f g i zero h = refl
first-ext f g i (suc k) h = λ t. first_of (h i (omega arith) t) (first-ext f g (suc i) k (λ j b. h j (omega arith)) t)
