-- What elimination means in exact arithmetic: document 01, "The fit"; Stoikov's G1 = (1 − Q)⁻¹ K and B = (1 − Q)⁻¹ T.
use Rattle.std.specs.Prelude.{ℕ, zero, suc, ◌<◌, ◌≡◌, cond, true, ◌≢◌, eqb}
use Rattle.fit_linear.specs.Arithmetic.{Arith}
use Rattle.fit_linear.specs.Elimination.{Matrix}

module _ (F : Arith) where
  open F use {Num, 𝟘, 𝟙, neg, ◌⊕◌, ◌⊖◌, ◌⊗◌, ◌⊘◌, size, is_zero, is_tiny}

  infixl 65 ◌⊕◌
  infixl 65 ◌⊖◌
  infixl 70 ◌⊗◌
  infixl 70 ◌⊘◌
  -- the laws of a field; what `is_zero` calls zero is zero, and zero is too small for a pivot
  pub record IsExact : Type 0 where
    pub ⊕-comm : (a b : Num) → a ⊕ b ≡ b ⊕ a
    pub ⊕-assoc : (a b c : Num) → a ⊕ b ⊕ c ≡ a ⊕ (b ⊕ c)
    pub ⊕-zero : (a : Num) → a ⊕ 𝟘 ≡ a
    pub ⊕-neg : (a : Num) → a ⊕ neg a ≡ 𝟘
    pub ⊗-comm : (a b : Num) → a ⊗ b ≡ b ⊗ a
    pub ⊗-assoc : (a b c : Num) → a ⊗ b ⊗ c ≡ a ⊗ (b ⊗ c)
    pub ⊗-one : (a : Num) → a ⊗ 𝟙 ≡ a
    pub ⊗-⊕ : (a b c : Num) → a ⊗ (b ⊕ c) ≡ a ⊗ b ⊕ a ⊗ c
    pub ⊗-inverse : (a : Num) → a ≢ 𝟘 → a ⊗ (𝟙 ⊘ a) ≡ 𝟙
    pub ⊖-is : (a b : Num) → a ⊖ b ≡ a ⊕ neg b
    pub ⊘-is : (a b : Num) → a ⊘ b ≡ a ⊗ (𝟙 ⊘ b)
    pub zero-known : (a : Num) → is_zero a ≡ true → a ≡ 𝟘
    pub zero-tiny : is_tiny (size 𝟘) ≡ true

  -- f 0 + … + f (n − 1)
  unfoldable pub field_sum : ℕ → (ℕ → Num) → Num
  field_sum zero f = 𝟘
  field_sum (suc n) f = field_sum n f ⊕ f n

  -- the identity
  abbrev pub unit : Matrix F
  unit r k = cond (eqb r k) 𝟙 𝟘

  -- x solves the n equations of a matrix: the first n numbers of a row are its coefficients, number j its right side
  abbrev pub Solves : ℕ → Matrix F → ℕ → (ℕ → Num) → Type 0
  Solves n A j x = (r : ℕ) → r < n → field_sum n (λ k. A r k ⊗ x k) ≡ A r j

  -- x = b + Q x: what comes at once, and what comes after a step of Q
  abbrev pub Expected : ℕ → Matrix F → (ℕ → Num) → (ℕ → Num) → Type 0
  Expected n Q b x = (r : ℕ) → r < n → x r ≡ b r ⊕ field_sum n (λ k. Q r k ⊗ x k)
