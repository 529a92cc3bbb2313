-- Counts and sums of appended lists, lists made by a function of the place and their sums, and flat squares.
use mathlib.Core.Path.{◌≡◌, refl, sym, ◌∙◌, ap}
use mathlib.Core.Logic.{◌≢◌}
use mathlib.Core.Bool.{Bool, true}
use mathlib.Core.List.{List, [], ◌∷◌, ◌++◌}
use Prim.Native.Nat.{ℕ, zero, suc, ◌+◌, ◌*◌, ◌/◌, ◌%◌, ◌<◌, max, suc-le-suc}
use native.Mathlib.Nat.{not-suc-le-zero, le_of_suc-le-suc, zero-lt-suc, suc-ne-zero, suc_inj, zero-add, add-zero, add_assoc, mul-le-mul_right, mul-add-div_right, mul-add-mod_self_right, div-eq_of_lt, mod-eq_of_lt, div-add-mod'}
use native.Mathlib.Omega.{arith}
use native.Mathlib.Decide.{ℕ_discrete}
use lib.IntN.{ℤ, ◌+ℤ◌, +ℤ_idl, +ℤ_idr, +ℤ_assoc}
use lib.ListN.{length, get_or, set, replicate, length-set}
use lib.Dec.{eqb}
use lib.Seq.{ext_get_or, get_or-set_same, get_or-set_other}
use borrow.Author.Tests.{eqb-true}
use Rattle.basics.specs.Lists.{bit, count, sum_of, greatest, tab, square, sum, same_words}
use Rattle.basics.proofs.Tests.{zero-not-one, both, eqb_same}

module _ {A : Type 0} where
  pub count-append : (p : A → Bool) (xs ys : List A) → count p (xs ++ ys) ≡ count p xs + count p ys
  count-append p [] ys = sym (zero-add (count p ys))
  count-append p (x ∷ xs) ys =
      ap (λ (n : ℕ). bit (p x) + n) (count-append p xs ys) ∙ sym (add_assoc (bit (p x)) (count p xs) (count p ys))

  pub sum-append : (f : A → ℤ) (xs ys : List A) → sum_of f (xs ++ ys) ≡ sum_of f xs +ℤ sum_of f ys
  sum-append f [] ys = sym (+ℤ_idl (sum_of f ys))
  sum-append f (x ∷ xs) ys =
      ap (λ (n : ℤ). f x +ℤ n) (sum-append f xs ys) ∙ sym (+ℤ_assoc (f x) (sum_of f xs) (sum_of f ys))

  pub greatest-append : (f : A → ℕ) (xs ys : List A) → greatest f (xs ++ ys) ≡ max (greatest f xs) (greatest f ys)
  greatest-append f [] ys = omega arith
  greatest-append f (x ∷ xs) ys = rw (greatest-append f xs ys) (omega arith)

  -- one more element
  pub count-snoc : (p : A → Bool) (xs : List A) (x : A) → count p (xs ++ x ∷ []) ≡ count p xs + bit (p x)
  count-snoc p xs x = count-append p xs (x ∷ []) ∙ ap (λ (n : ℕ). count p xs + n) (add-zero (bit (p x)))

  pub sum-snoc : (f : A → ℤ) (xs : List A) (x : A) → sum_of f (xs ++ x ∷ []) ≡ sum_of f xs +ℤ f x
  sum-snoc f xs x = sum-append f xs (x ∷ []) ∙ ap (λ (n : ℤ). sum_of f xs +ℤ n) (+ℤ_idr (f x))

  pub length-tab : (n : ℕ) (f : ℕ → A) → length (tab n f) ≡ n
  length-tab zero f = refl
  length-tab (suc n) f = ap suc (length-tab n (λ k. f (suc k)))

  pub get_or-tab : (n : ℕ) (f : ℕ → A) (k : ℕ) (d : A) → k < n → get_or (tab n f) k d ≡ f k
  get_or-tab zero f k d h = absurd (not-suc-le-zero h)
  get_or-tab (suc n) f zero d h = refl
  get_or-tab (suc n) f (suc k) d h = get_or-tab n (λ m. f (suc m)) k d (le_of_suc-le-suc h)

  pub tab-ext : (n : ℕ) (f g : ℕ → A) → ((k : ℕ) → k < n → f k ≡ g k) → tab n f ≡ tab n g
  tab-ext zero f g h = refl
  tab-ext (suc n) f g h =
      λ i. h zero (zero-lt-suc n) i ∷ tab-ext n (λ k. f (suc k)) (λ k. g (suc k)) (λ k b. h (suc k) (suc-le-suc b)) i

  -- a store into such a list makes the list of another function, which differs there alone
  pub set-tab : (n : ℕ) (f g : ℕ → A) (k : ℕ) (a : A) → k < n → a ≡ g k → ((m : ℕ) → m < n → m ≢ k → f m ≡ g m) → set (tab n f) k a ≡ tab n g
  set-tab n f g k a h e o = ext_get_or a (set (tab n f) k a) (tab n g) lens at
    where
      lens : length (set (tab n f) k a) ≡ length (tab n g)
      lens = length-set (tab n f) k a ∙ length-tab n f ∙ sym (length-tab n g)

      go : (m : ℕ) → m < n → Dec (m ≡ k) → get_or (set (tab n f) k a) m a ≡ get_or (tab n g) m a
      go m b (yes p) =
          rw p (get_or-set_same (tab n f) k a a (rw (length-tab n f) h) ∙ e ∙ sym (get_or-tab n g k a h))
      go m b (no q) = get_or-set_other (tab n f) k m a a q ∙ get_or-tab n f m a b ∙ o m b q ∙ sym (get_or-tab n g m a b)

      at : (m : ℕ) → m < length (set (tab n f) k a) → get_or (set (tab n f) k a) m a ≡ get_or (tab n g) m a
      at m b = go m (rw (length-set (tab n f) k a, length-tab n f) at b) (ℕ_discrete m k)

  -- a list is made by what stands at its places
  pub tab-get_or : (l : List A) (n : ℕ) (d : A) → length l ≡ n → tab n (λ k. get_or l k d) ≡ l
  tab-get_or [] zero d e = refl
  tab-get_or [] (suc n) d e = absurd (suc-ne-zero n (sym e))
  tab-get_or (x ∷ xs) zero d e = absurd (suc-ne-zero (length xs) e)
  tab-get_or (x ∷ xs) (suc n) d e = ap (λ (r : List A). x ∷ r) (tab-get_or xs n d (suc_inj e))

  pub square-get_or : (N : ℕ) (l : List A) (d : A) → length l ≡ N * N → square N (λ i j. get_or l (i * N + j) d) ≡ l
  square-get_or N l d e =
      tab-ext (N * N) (λ k. get_or l (k / N * N + k % N) d) (λ k. get_or l k d) (λ k b. ap (λ (n : ℕ). get_or l n d) (div-add-mod' k N))
      ∙ tab-get_or l (N * N) d e

module _ (N i j : ℕ) (hj : j < N) where
  pub flat-row : (i * N + j) / N ≡ i
  flat-row = mul-add-div_right (omega arith) i j ∙ ap (λ (n : ℕ). i + n) (div-eq_of_lt hj) ∙ add-zero i

  pub flat-column : (i * N + j) % N ≡ j
  flat-column = mul-add-mod_self_right i N j ∙ mod-eq_of_lt hj

  pub flat-below : (M : ℕ) → i < M → i * N + j < M * N
  flat-below M hi = omega (arith, mul-le-mul_right N hi)

pub get_or-square : {A : Type 0} (N : ℕ) (f : ℕ → ℕ → A) (i j : ℕ) (d : A) → i < N → j < N → get_or (square N f) (i * N + j) d ≡ f i j
get_or-square {A} N f i j d hi hj =
    get_or-tab (N * N) (λ k. f (k / N) (k % N)) (i * N + j) d (flat-below N i j hj N hi)
    ∙ (λ t. f (flat-row N i j hj t) (flat-column N i j hj t))

-- ---- sums

pub sum-tab-add : (n : ℕ) (f g : ℕ → ℕ) → sum (tab n (λ k. f k + g k)) ≡ sum (tab n f) + sum (tab n g)
sum-tab-add zero f g = refl
sum-tab-add (suc n) f g = omega (arith, sum-tab-add n (λ k. f (suc k)) (λ k. g (suc k)))

pub sum-tab-zero : (n : ℕ) (f : ℕ → ℕ) → ((k : ℕ) → k < n → f k ≡ 0) → sum (tab n f) ≡ 0
sum-tab-zero zero f h = refl
sum-tab-zero (suc n) f h =
    omega (arith, h zero (zero-lt-suc n), sum-tab-zero n (λ k. f (suc k)) (λ k b. h (suc k) (suc-le-suc b)))

-- of a function that is 0 but at k
pub sum-tab-one : (n : ℕ) (f : ℕ → ℕ) (k : ℕ) → k < n → ((m : ℕ) → m < n → m ≢ k → f m ≡ 0) → sum (tab n f) ≡ f k
sum-tab-one zero f k h o = absurd (not-suc-le-zero h)
sum-tab-one (suc n) f zero h o =
    omega (arith, sum-tab-zero n (λ m. f (suc m)) (λ m b. o (suc m) (suc-le-suc b) (suc-ne-zero m)))
sum-tab-one (suc n) f (suc k) h o =
    omega (
      arith,
      o zero (zero-lt-suc n) (λ p. suc-ne-zero k (sym p)),
      sum-tab-one n (λ m. f (suc m)) k (le_of_suc-le-suc h) (λ m b q. o (suc m) (suc-le-suc b) (λ p. q (suc_inj p))),
    )

pub sum-replicate : (n : ℕ) → sum (replicate n 0) ≡ 0
sum-replicate zero = refl
sum-replicate (suc n) = omega (arith, sum-replicate n)

-- ---- lists that are compared

pub same-equal : (xs ys : List ℕ) → same_words xs ys ≡ true → xs ≡ ys
same-equal [] [] e = refl
same-equal [] (y ∷ ys) e = absurd (zero-not-one cc)
same-equal (x ∷ xs) [] e = absurd (zero-not-one cc)
same-equal (x ∷ xs) (y ∷ ys) e =
    let p = both (eqb x y) (same_words xs ys) e in
    λ i. eqb-true x y p.0 i ∷ same-equal xs ys p.1 i

pub same_self : (l : List ℕ) → same_words l l ≡ true
same_self [] = refl
same_self (x ∷ xs) = rw (eqb_same x) (same_self xs)
