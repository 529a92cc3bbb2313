-- The digits of a number: its first ones and its last, and how many there are.
use Prim.Native.Nat.{ℕ, zero, suc, ◌+◌, ◌*◌, ◌/◌, ◌%◌, ◌≤◌, ◌<◌, ◌^◌}
use mathlib.Core.Path.{◌≡◌, refl, sym, ◌∙◌, ap}
use mathlib.Core.Bool.{Bool, cond}
use mathlib.Core.List.{List, [], ◌∷◌, ◌++◌}
use mathlib.Core.Logic.{◌⊎◌, inl, inr}
use native.Mathlib.Nat.{pow-suc}
use native.Mathlib.Omega.{arith}
use lib.Dec.{ltb}
use lib.ListN.{length, length-append}
use borrow.Author.Tests.{lt-ltb, le-ltb}
use Rattle.basics.proofs.Tests.{le-or-lt}
use Rattle.program_text.specs.Text.{digit, decimal_in, decimal}

in_one : (j n : ℕ) → n < 10 → decimal_in j n ≡ digit n ∷ []
in_one zero n s = ap (λ (d : ℕ). digit d ∷ []) (let e : n % 10 ≡ n = omega arith in e)
in_one (suc j) n s = ap (λ (t : Bool). cond t (digit n ∷ []) (decimal_in j (n / 10) ++ digit (n % 10) ∷ [])) (lt-ltb n 10 s)

-- more steps change nothing
enough : (k m n : ℕ) → n ≤ k → n ≤ m → decimal_in k n ≡ decimal_in m n
enough zero m n h g = in_one zero n (omega arith) ∙ sym (in_one m n (omega arith))
enough (suc k) zero n h g = in_one (suc k) n (omega arith) ∙ sym (in_one zero n (omega arith))
enough (suc k) (suc m) n h g = by (le-or-lt 10 n) (λ s. enough k m (n / 10) (omega arith) (omega arith))
  where
    by : (10 ≤ n) ⊎ (n < 10) → (10 ≤ n → decimal_in k (n / 10) ≡ decimal_in m (n / 10)) → decimal_in (suc k) n ≡ decimal_in (suc m) n
    by (inr s) f = in_one (suc k) n s ∙ sym (in_one (suc m) n s)
    by (inl s) f = ap (λ (r : List ℕ). cond (ltb n 10) (digit n ∷ []) (r ++ digit (n % 10) ∷ [])) (f s)

pub decimal-one : (n : ℕ) → n < 10 → decimal n ≡ digit n ∷ []
unfolding decimal
decimal-one zero h = refl
decimal-one (suc k) h = ap (λ (t : Bool). cond t (digit (suc k) ∷ []) (decimal_in k (suc k / 10) ++ digit (suc k % 10) ∷ [])) (lt-ltb (suc k) 10 h)

pub decimal-more : (n : ℕ) → 10 ≤ n → decimal n ≡ decimal (n / 10) ++ digit (n % 10) ∷ []
unfolding decimal
decimal-more zero h = absurd (omega arith)
decimal-more (suc k) h =
    ap (λ (t : Bool). cond t (digit (suc k) ∷ []) (decimal_in k (suc k / 10) ++ digit (suc k % 10) ∷ [])) (le-ltb (suc k) 10 h)
    ∙ ap (λ (r : List ℕ). r ++ digit (suc k % 10) ∷ []) (enough k (suc k / 10) (suc k / 10) (omega arith) (omega arith))

-- a digit more at the end
pub decimal_step : (v d : ℕ) → 1 ≤ v → d ≤ 9 → decimal (v * 10 + d) ≡ decimal v ++ digit d ∷ []
decimal_step v d h g =
    let p : (v * 10 + d) / 10 ≡ v = omega arith in
    let q : (v * 10 + d) % 10 ≡ d = omega arith in
    decimal-more (v * 10 + d) (omega arith) ∙ (λ i. decimal (p i) ++ digit (q i) ∷ [])

-- ---- how many

pub length_more : (n : ℕ) → 10 ≤ n → length (decimal n) ≡ length (decimal (n / 10)) + 1
length_more n h = ap length (decimal-more n h) ∙ length-append (decimal (n / 10)) (digit (n % 10) ∷ [])

-- at most k + 1 digits below 10^(k + 1)
pub decimal-length : (k n : ℕ) → n < 10 ^ (k + 1) → length (decimal n) ≤ k + 1
decimal-length zero n h = omega (arith, ap length (decimal-one n (omega arith)))
decimal-length (suc k) n h = by (le-or-lt 10 n) (λ s. decimal-length k (n / 10) (omega (arith, power)))
  where
    power : 10 ^ (suc k + 1) ≡ 10 ^ (k + 1) * 10
    power = ap (λ (j : ℕ). 10 ^ j) (let z : suc k + 1 ≡ suc (k + 1) = omega arith in z) ∙ pow-suc 10 (k + 1)

    by : (10 ≤ n) ⊎ (n < 10) → (10 ≤ n → length (decimal (n / 10)) ≤ k + 1) → length (decimal n) ≤ suc k + 1
    by (inl s) f = omega (arith, length_more n s, f s)
    by (inr s) f = omega (arith, ap length (decimal-one n s))

pub decimal-word : (n : ℕ) → n < 2 ^ 64 → length (decimal n) ≤ 20
decimal-word n h = decimal-length 19 n (omega arith)

pub decimal-least : (n : ℕ) → 1 ≤ length (decimal n)
decimal-least n = by (le-or-lt 10 n)
  where
    by : (10 ≤ n) ⊎ (n < 10) → 1 ≤ length (decimal n)
    by (inl s) = omega (arith, length_more n s)
    by (inr s) = omega (arith, ap length (decimal-one n s))
