-- The pivot's row lies from the diagonal down; where sizes are ordered, as those of binary64 are, its size is the greatest, and it is the last of equals.
use Prim.Native.Nat.{ℕ, zero, suc, ◌+◌, ◌-◌, ◌<◌, ◌≤◌}
use mathlib.Core.Path.{◌≡◌, refl, sym, ◌∙◌}
use mathlib.Core.Bool.{Bool, true, false, cond}
use mathlib.Core.Logic.{⊎_elim}
use native.Mathlib.Nat.{eq-or-lt_of_le}
use native.Mathlib.Omega.{arith}
use lib.Ieee.{Float}
use Rattle.floats.specs.Floats.{abs, as_great}
use Rattle.floats.proofs.Sizes.{great-total, great-trans}
use Rattle.fit_linear.specs.Arithmetic.{Arith, rounded}
use Rattle.fit_linear.specs.Elimination.{Matrix, pivot_row}

pub pivot-within : (F : Arith) (A : Matrix F) (c m : ℕ) → (c ≤ pivot_row F A c m) × (pivot_row F A c m ≤ c + m)
unfolding pivot_row
pivot-within F A c zero = (omega arith, omega arith)
pivot-within F A c (suc m) = go (pivot-within F A c m) (F.as_great (F.size (A (pivot_row F A c m) c)) (F.size (A (c + suc m) c)))
  where
    go : (c ≤ pivot_row F A c m) × (pivot_row F A c m ≤ c + m) → (b : Bool)
        → (c ≤ cond b (c + suc m) (pivot_row F A c m)) × (cond b (c + suc m) (pivot_row F A c m) ≤ c + suc m)
    go h true = (omega arith, omega arith)
    go h false = (omega arith, omega arith)

-- ---- the search at binary64, from the row below the diagonal down

-- of rows c to r − 1 the pivot's row is `best`
pub record Pivoting (n : ℕ) (A : ℕ → ℕ → Float) (c best r : ℕ) : Type 0 where
  pub below : c < r
  pub within : r ≤ n
  pub row : best < n
  pub is : best ≡ pivot_row rounded A c (r - (c + 1))

pub pivoting-none : {n c : ℕ} {A : ℕ → ℕ → Float} → c < n → Pivoting n A c c (c + 1)
unfolding pivot_row
pivoting-none {n} {c} h =
    let z : c + 1 - (c + 1) ≡ 0 = omega arith in
    record { below = omega arith; within = omega arith; row = h; is = rw z }

-- one row more: `test` says whether its size is as great as that of the best so far
module _ {n c best r : ℕ} {A : ℕ → ℕ → Float} {test : Bool} (s : Pivoting n A c best r) (more : r < n)
    (tested : test ≡ as_great (abs (A best c)) (abs (A r c))) where
  next : pivot_row rounded A c (r + 1 - (c + 1)) ≡ cond test r best
  unfolding pivot_row
  next =
      let y : r + 1 - (c + 1) ≡ suc (r - (c + 1)) = omega (arith, s.below) in
      let z : c + suc (r - (c + 1)) ≡ r = omega (arith, s.below) in
      rw (y, z, ← s.is, ← tested)

  -- it is taken where it is
  pub pivoting-taken : {best' : ℕ} → test ≡ true → best' ≡ r → Pivoting n A c best' (r + 1)
  pivoting-taken h b = record { below = omega (arith, s.below); within = omega arith; row = omega arith; is = b ∙ sym (rw h at next) }

  -- and the best stays where it is not
  pub pivoting-left : {best' : ℕ} → test ≡ false → best' ≡ best → Pivoting n A c best' (r + 1)
  pivoting-left h b = record { below = omega (arith, s.below); within = omega arith; row = omega (arith, s.row); is = b ∙ sym (rw h at next) }

-- ---- its size is the greatest

module _
    (F : Arith)
    (total : (x y : F.Num) → F.as_great x y ≡ false → F.as_great y x ≡ true)
    (trans : (x y z : F.Num) → F.as_great x y ≡ true → F.as_great y z ≡ true → F.as_great x z ≡ true) where
  open F use {Num, size, as_great}

  self : (x : Num) → as_great x x ≡ true
  self x = go (as_great x x) refl
    where
      go : (b : Bool) → as_great x x ≡ b → as_great x x ≡ true
      go true e = e
      go false e = total x x e

  -- row p's size in column c is the greatest from row c to row c + m, and greater than any after it
  abbrev Greatest : Matrix F → ℕ → ℕ → ℕ → Type 0
  Greatest A c m p =
      ((r : ℕ) → c ≤ r → r ≤ c + m → as_great (size (A r c)) (size (A p c)) ≡ true)
      × ((r : ℕ) → p < r → r ≤ c + m → as_great (size (A p c)) (size (A r c)) ≡ false)

  pub pivot-greatest : (A : Matrix F) (c m : ℕ) → Greatest A c m (pivot_row F A c m)
  unfolding pivot_row
  pivot-greatest A c zero = (
    (λ r h k. let e : r ≡ c = omega arith in rw e (self (size (A c c)))),
    (λ r h k. absurd (omega arith)),
  )
  pivot-greatest A c (suc m) = go (pivot_row F A c m) (pivot-within F A c m).1 (pivot-greatest A c m)
      (as_great (size (A (pivot_row F A c m) c)) (size (A (c + suc m) c))) refl
    where
      go : (p : ℕ) → p ≤ c + m → Greatest A c m p → (b : Bool) → as_great (size (A p c)) (size (A (c + suc m) c)) ≡ b
          → Greatest A c (suc m) (cond b (c + suc m) p)
      go p q h true e = (
        (λ r hr k. ⊎_elim (λ (s : r ≡ c + suc m). rw s (self (size (A (c + suc m) c)))) (λ (s : r < c + suc m). trans _ _ _ (h.0 r hr (omega arith)) e)
            (eq-or-lt_of_le k)),
        (λ r hr k. absurd (omega arith)),
      )
      go p q h false e = (
        (λ r hr k. ⊎_elim (λ (s : r ≡ c + suc m). rw s (total _ _ e)) (λ (s : r < c + suc m). h.0 r hr (omega arith)) (eq-or-lt_of_le k)),
        (λ r hr k. ⊎_elim (λ (s : r ≡ c + suc m). rw s e) (λ (s : r < c + suc m). h.1 r hr (omega arith)) (eq-or-lt_of_le k)),
      )

-- at binary64: NaN above all and equal to any NaN
pub rounded-pivot : (A : ℕ → ℕ → Float) (c m : ℕ)
    → ((r : ℕ) → c ≤ r → r ≤ c + m → as_great (abs (A r c)) (abs (A (pivot_row rounded A c m) c)) ≡ true)
    × ((r : ℕ) → pivot_row rounded A c m < r → r ≤ c + m → as_great (abs (A (pivot_row rounded A c m) c)) (abs (A r c)) ≡ false)
rounded-pivot = pivot-greatest rounded great-total great-trans
