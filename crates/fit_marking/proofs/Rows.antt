-- Rows of tables: their cells, their sums fit, and what they say of a state's first mark.
use mathlib.Core.Path.{◌≡◌, refl, sym, ap, ◌∙◌}
use mathlib.Core.Bool.{Bool, true, false, ◌||◌}
use mathlib.Core.List.{List, [], ◌∷◌}
use Prim.Native.Nat.{ℕ, zero, suc, ◌+◌, ◌*◌, ◌<◌, ◌≤◌}
use lib.ListN.{length, get_or, take, drop}
use Rattle.std.proofs.Common.{length-take, length-drop}
use Rattle.std.proofs.lemmas.List.{get_or-drop, get_or-take}
use Rattle.std.proofs.lemmas.List.Recursion.{is_sum_by}
use Rattle.std.specs.List.{sum, list_any, zip}
use native.Mathlib.Omega.{arith}
use borrow.Author.Tests.{lt-ltb, le-ltb}
use Rattle.basics.proofs.Tests.{row_in}
use Rattle.model.specs.declared.StateStatus.TheVariants as Status
use Rattle.fit_marking.specs.Below.{sum_to, some_to}
use Rattle.basics.specs.Lists.{any, tab, cell_at, sum as lists_sum}
use Rattle.basics.proofs.Lists.{tab-ext, tab-get_or}
use Rattle.basics.specs.Domain.{counter_limit}
use Rattle.fit_marking.specs.Marks.{cells_of, observations}
use Rattle.fit_marking.specs.Inner.{Fitting, row_of, has_positive, first_mark}
use Rattle.fit_marking.proofs.Below.{part-below}

-- ---- a row and its cells

pub length-row : (n : ℕ) (t : List ℕ) (x : ℕ) → x * n + n ≤ length t → length (row_of n t x) ≡ n
length-row n t x h = omega (arith, length-take n (drop (x * n) t), length-drop (x * n) t)

pub row-at : (n : ℕ) (t : List ℕ) (x k : ℕ) → k < n → get_or (row_of n t x) k 0 ≡ cell_at n t x k
row-at n t x k b = get_or-take n (drop (x * n) t) k 0 b ∙ get_or-drop (x * n) t k 0

pub row-cells : (n : ℕ) (t : List ℕ) (x : ℕ) → x * n + n ≤ length t → row_of n t x ≡ tab n (cell_at n t x)
row-cells n t x h =
    sym (tab-get_or (row_of n t x) n 0 (length-row n t x h)) ∙ tab-ext n (λ k. get_or (row_of n t x) k 0) (cell_at n t x) (row-at n t x)

pub row-sum : (n : ℕ) (t : List ℕ) (x : ℕ) → x * n + n ≤ length t → sum (row_of n t x) ≡ sum_to n (cell_at n t x)
unfolding sum_to
row-sum n t x h = sym (is_sum_by lists_sum (λ y. y) refl (λ _ _. refl) (row_of n t x)) ∙ ap lists_sum (row-cells n t x h)

module _ {A : Type 0} (p : A → Bool) where
  any-tab : (n : ℕ) (f : ℕ → A) (g : ℕ → ℕ) → list_any p (tab n (λ k. f (g k))) ≡ any (λ k. p (f k)) (tab n g)
  any-tab zero f g = refl
  any-tab (suc n) f g = ap (λ b. p (f (g 0)) || b) (any-tab n f (λ k. g (suc k)))

  pub some-tab : (n : ℕ) (f : ℕ → A) → list_any p (tab n f) ≡ some_to n (λ k. p (f k))
  unfolding some_to
  some-tab n f = any-tab n f (λ k. k)

-- the first n of a list
pub some-first : {A : Type 0} (p : A → Bool) (n : ℕ) (l : List A) (d : A) → n ≤ length l → list_any p (take n l) ≡ some_to n (λ k. p (get_or l k d))
some-first p n l d h =
    ap (list_any p)
    (sym (tab-get_or (take n l) n d (omega (arith, length-take n l)))
    ∙ tab-ext n (λ k. get_or (take n l) k d) (λ k. get_or l k d) (λ k b. get_or-take n l k d b))
    ∙ some-tab p n (λ k. get_or l k d)

pub zip-tab : {A B : Type 0} (n : ℕ) (f : ℕ → B) (l : List A) (d : A) → n ≤ length l → zip (tab n f) l ≡ tab n (λ k. (f k, get_or l k d))
zip-tab zero f l d h = refl
zip-tab (suc n) f [] d h = absurd (omega arith)
zip-tab (suc n) f (x ∷ xs) d h = ap (λ r. (f 0, x) ∷ r) (zip-tab n (λ k. f (suc k)) xs d (omega arith))

-- ---- sums

pub row_fits : (n : ℕ) (stay moved : List ℕ) (x : ℕ) → Fitting n stay moved → x < n
    → sum_to n (cell_at n stay x) + sum_to n (cell_at n moved x) ≤ 2 * counter_limit
row_fits n stay moved x f h =
    let r = row_in x n n h in
    let a = part-below stay (x * n) n (omega arith) in
    let b = part-below moved (x * n) n (omega arith) in
    omega arith

-- row x of both tables lies in them, and its sums together are at most twice the limit of pairs
pub record RowInTables (n : ℕ) (stay moved : List ℕ) (x : ℕ) : Type 0 where
  pub stay-in : x * n + n ≤ length stay
  pub moved_in : x * n + n ≤ length moved
  pub sums-fit : sum_to n (cell_at n stay x) + sum_to n (cell_at n moved x) ≤ 2 * counter_limit

pub row-in-tables : {n : ℕ} {stay moved : List ℕ} {x : ℕ} → Fitting n stay moved → x < n → RowInTables n stay moved x
row-in-tables {n} {stay} {moved} {x} f h =
    let r = row_in x n n h in
    record { stay-in = omega (arith, f.stay-cells); moved_in = omega (arith, f.moved-cells); sums-fit = row_fits n stay moved x f h }

module _ (N least : ℕ) (stay moved : List ℕ) (x : ℕ) where
  abbrev seen : ℕ
  seen = observations (cells_of N 0 stay moved) x

  -- observations do not depend on the least
  pub any-least : observations (cells_of N least stay moved) x ≡ seen
  unfolding observations
  any-least = refl

  pub observations-fit : Fitting N stay moved → x < N → observations (cells_of N least stay moved) x ≤ 2 * counter_limit
  unfolding observations
  observations-fit f h = row_fits N stay moved x f h

  pub first-rare : seen < least → Status.Rare ≡ first_mark N least stay moved x
  first-rare h = rw (any-least, lt-ltb seen least h)

  pub first-path : least ≤ seen → has_positive N moved x ≡ true → Status.Calibrated ≡ first_mark N least stay moved x
  first-path h t = rw (any-least, le-ltb seen least h, t)

  pub first-none : least ≤ seen → has_positive N moved x ≡ false → Status.NoPriceMove ≡ first_mark N least stay moved x
  first-none h t = rw (any-least, le-ltb seen least h, t)
