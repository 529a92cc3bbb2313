-- What tests that hold or fail say of their parts, that products fit a word, that rows lie in their table, and what is left of a count.
use Prim.Native.Nat.{ℕ, suc, ◌+◌, ◌-◌, ◌*◌, ◌^◌, ◌≤◌, ◌<◌}
use mathlib.Core.Path.{◌≡◌, refl, sym}
use mathlib.Core.Bool.{Bool, true, false, ◌&&◌, ◌||◌}
use mathlib.Core.Logic.{◌⊎◌, inl, inr}
use native.Mathlib.Nat.{lt_of_le_of_lt, mul-le-mul, mul-le-mul_right, suc-mul}
use native.Mathlib.Omega.{arith}
use lib.Dec.{T, leb, ltb, eqb, lit<}
use borrow.Author.Tests.{leb-true, leb-false, eq-eqb}
use mir.Syntax.{w64}
use mir.Val.{Fits}

-- two cases that differ are not equal: congruence takes such an equation to this one, `absurd (zero-not-one cc)`
pub zero-not-one : ◌≡◌ {A = ℕ} 0 1 → ⊥
zero-not-one e = omega arith

pub both : (a b : Bool) → (a && b) ≡ true → (a ≡ true) × (b ≡ true)
both true b e = (refl, e)
both false b e = absurd (zero-not-one cc)

pub neither : (a b : Bool) → (a || b) ≡ false → (a ≡ false) × (b ≡ false)
neither true b e = absurd (zero-not-one cc)
neither false b e = (refl, e)

pub either : (a b : Bool) → (a || b) ≡ true → (a ≡ true) ⊎ (b ≡ true)
either true b e = inl refl
either false b e = inr e

pub yes_or_no : (b : Bool) → (b ≡ true) ⊎ (b ≡ false)
yes_or_no true = inl refl
yes_or_no false = inr refl

-- a test that does not hold is false
pub fails : (a : Bool) → (a ≡ true → ⊥) → a ≡ false
fails true h = absurd (h refl)
fails false h = refl

pub le-or-lt : (a b : ℕ) → (a ≤ b) ⊎ (b < a)
le-or-lt a b = go (leb a b) refl
  where
    go : (t : Bool) → leb a b ≡ t → (a ≤ b) ⊎ (b < a)
    go true e = inl (leb-true a b e)
    go false e = inr (leb-false a b e)

-- a product of bounded factors fits a word
pub fits-mul : (A B : ℕ) {a b : ℕ} → a ≤ A → b ≤ B → T (ltb (A * B) (2 ^ 64)) → Fits w64 (a * b)
fits-mul A B p q t = record { fits = lt_of_le_of_lt (mul-le-mul p q) (lit< t) }

-- row r of n rows of w lies within
pub row_in : (r n w : ℕ) → r < n → r * w + w ≤ n * w
row_in r n w h = rw suc-mul at (mul-le-mul_right w h)

pub eqb_same : (n : ℕ) → eqb n n ≡ true
eqb_same n = eq-eqb n n refl

-- two tests that hold together are equal
pub same_test : (a b : Bool) → (a ≡ true → b ≡ true) → (b ≡ true → a ≡ true) → a ≡ b
same_test true true f g = refl
same_test true false f g = sym (f refl)
same_test false true f g = g refl
same_test false false f g = refl

-- what is left of a count
pub still : (k m : ℕ) → k < m → m - k ≡ suc (m - (k + 1))
still k m h = omega arith

pub gone : (k m : ℕ) → m ≤ k → m - k ≡ 0
gone k m h = omega arith
