-- Elimination in exact arithmetic solves its equations: where `gauss_jordan` answers `solved B` for A, the first n columns of B are the identity, and column j
-- of B is the one solution x of (A's first n columns) x = column j of A.
use mathlib.Core.Path.{◌≡◌, refl, sym, ap, ◌∙◌, subst}
use mathlib.Core.Logic.{◌≢◌, ◌↔◌, ⊎_elim}
use mathlib.Core.Bool.{Bool, true, false, cond, true≢false}
use Prim.Native.Nat.{ℕ, zero, suc, ◌+◌, ◌-◌, ◌<◌, ◌≤◌}
use native.Mathlib.Nat.{eq-or-lt_of_le}
use native.Mathlib.Omega.{arith}
use lib.Dec.{eqb}
use borrow.Author.Tests.{eqb-true, eq-eqb, ne_eqb, lt-ltb, le-ltb}
use Rattle.basics.proofs.Tests.{zero-not-one}
use Rattle.fit_linear.specs.Arithmetic.{Arith}
use Rattle.fit_linear.specs.Elimination.{Elimination, solved, singular, matrix_of, and_then, Matrix, system, pivot_row, swapped, normalized, cleared, reduced, column_solved, columns_solved, gauss_jordan}
use Rattle.fit_linear.specs.Exact.{IsExact, field_sum, unit, Solves, Expected}
use Rattle.fit_linear.proofs.Pivot.{pivot-within}

module _ (F : Arith) (E : IsExact F) where
  open F use {Num, 𝟘, 𝟙, neg, ◌⊕◌, ◌⊖◌, ◌⊗◌, ◌⊘◌, size, is_zero, is_tiny}
  open E use {⊕-comm, ⊕-assoc, ⊕-zero, ⊕-neg, ⊗-comm, ⊗-assoc, ⊗-one, ⊗-⊕, ⊗-inverse, ⊖-is, ⊘-is, zero-known, zero-tiny}

  infixl 65 ◌⊕◌
  infixl 65 ◌⊖◌
  infixl 70 ◌⊗◌
  infixl 70 ◌⊘◌
  abbrev inverse : Num → Num
  inverse a = 𝟙 ⊘ a

  -- a row's equation
  abbrev Holds : ℕ → ℕ → (ℕ → Num) → (ℕ → Num) → Type 0
  Holds n j x row = field_sum F n (λ k. row k ⊗ x k) ≡ row j

  -- ---- laws of a field
  cancel : (a b c : Num) → a ⊕ b ≡ c ⊕ b → a ≡ c
  cancel a b c e = sym (back a) ∙ ap (λ s. s ⊕ neg b) e ∙ back c
    where
      back : (d : Num) → d ⊕ b ⊕ neg b ≡ d
      back d = ⊕-assoc d b (neg b) ∙ ap (λ s. d ⊕ s) (⊕-neg b) ∙ ⊕-zero d

  zero-⊕ : (a : Num) → 𝟘 ⊕ a ≡ a
  zero-⊕ a = ⊕-comm 𝟘 a ∙ ⊕-zero a

  ⊗-zero : (a : Num) → a ⊗ 𝟘 ≡ 𝟘
  ⊗-zero a = cancel (a ⊗ 𝟘) (a ⊗ 𝟘) 𝟘 (sym (⊗-⊕ a 𝟘 𝟘) ∙ ap (λ s. a ⊗ s) (⊕-zero 𝟘) ∙ sym (zero-⊕ (a ⊗ 𝟘)))

  zero-⊗ : (a : Num) → 𝟘 ⊗ a ≡ 𝟘
  zero-⊗ a = ⊗-comm 𝟘 a ∙ ⊗-zero a

  ⊖-⊕ : (a b : Num) → a ⊖ b ⊕ b ≡ a
  ⊖-⊕ a b = ap (λ s. s ⊕ b) (⊖-is a b) ∙ ⊕-assoc a (neg b) b ∙ ap (λ s. a ⊕ s) (⊕-comm (neg b) b ∙ ⊕-neg b) ∙ ⊕-zero a

  ⊖-zero : (a : Num) → a ⊖ 𝟘 ≡ a
  ⊖-zero a = sym (⊕-zero (a ⊖ 𝟘)) ∙ ⊖-⊕ a 𝟘

  ⊖-self : (a : Num) → a ⊖ a ≡ 𝟘
  ⊖-self a = ⊖-is a a ∙ ⊕-neg a

  ⊘-self : (a : Num) → a ≢ 𝟘 → a ⊘ a ≡ 𝟙
  ⊘-self a h = ⊘-is a a ∙ ⊗-inverse a h

  zero-⊘ : (a : Num) → 𝟘 ⊘ a ≡ 𝟘
  zero-⊘ a = ⊘-is 𝟘 a ∙ zero-⊗ (inverse a)

  ⊗-⊘ : (a b : Num) → b ≢ 𝟘 → a ≡ b ⊗ (a ⊘ b)
  ⊗-⊘ a b h = sym (ap (λ s. b ⊗ s) (⊘-is a b ∙ ⊗-comm a (inverse b)) ∙ sym (⊗-assoc b (inverse b) a) ∙ ap (λ s. s ⊗ a) (⊗-inverse b h) ∙ ⊗-comm 𝟙 a ∙ ⊗-one a)

  ⊕-⊗ : (a b c : Num) → (a ⊕ b) ⊗ c ≡ a ⊗ c ⊕ b ⊗ c
  ⊕-⊗ a b c = ⊗-comm (a ⊕ b) c ∙ ⊗-⊕ c a b ∙ ap (λ s. s ⊕ c ⊗ b) (⊗-comm c a) ∙ ap (λ s. a ⊗ c ⊕ s) (⊗-comm c b)

  exchange : (a b c d : Num) → a ⊕ b ⊕ (c ⊕ d) ≡ a ⊕ c ⊕ (b ⊕ d)
  exchange a b c d = ⊕-assoc a b (c ⊕ d) ∙ ap (λ s. a ⊕ s) (sym (⊕-assoc b c d) ∙ ap (λ s. s ⊕ d) (⊕-comm b c) ∙ ⊕-assoc c b d) ∙ sym (⊕-assoc a c (b ⊕ d))

  -- ---- sums
  sum_same : (n : ℕ) (f g : ℕ → Num) → ((k : ℕ) → k < n → f k ≡ g k) → field_sum F n f ≡ field_sum F n g
  unfolding field_sum
  sum_same zero f g e = refl
  sum_same (suc n) f g e = ap (λ s. s ⊕ f n) (sum_same n f g (λ k hk. e k (omega arith))) ∙ ap (λ s. field_sum F n g ⊕ s) (e n (omega arith))

  sum-scaled : (n : ℕ) (b : Num) (v x : ℕ → Num) → field_sum F n (λ k. b ⊗ v k ⊗ x k) ≡ b ⊗ field_sum F n (λ k. v k ⊗ x k)
  unfolding field_sum
  sum-scaled zero b v x = sym (⊗-zero b)
  sum-scaled (suc n) b v x = ap (λ s. s ⊕ b ⊗ v n ⊗ x n) (sum-scaled n b v x) ∙ ap (λ s. b ⊗ field_sum F n (λ k. v k ⊗ x k) ⊕ s) (⊗-assoc b (v n) (x n))
      ∙ sym (⊗-⊕ b _ _)

  sum-plus : (n : ℕ) (u v x : ℕ → Num) → field_sum F n (λ k. (u k ⊕ v k) ⊗ x k) ≡ field_sum F n (λ k. u k ⊗ x k) ⊕ field_sum F n (λ k. v k ⊗ x k)
  unfolding field_sum
  sum-plus zero u v x = sym (⊕-zero 𝟘)
  sum-plus (suc n) u v x =
      ap (λ s. s ⊕ (u n ⊕ v n) ⊗ x n) (sum-plus n u v x)
      ∙ ap (λ s. field_sum F n (λ k. u k ⊗ x k) ⊕ field_sum F n (λ k. v k ⊗ x k) ⊕ s) (⊕-⊗ (u n) (v n) (x n))
      ∙ exchange _ _ _ _

  -- ---- rows
  row_same : (n j : ℕ) (x u v : ℕ → Num) → ((k : ℕ) → u k ≡ v k) → Holds n j x v → Holds n j x u
  row_same n j x u v e h = sum_same n _ _ (λ k hk. ap (λ s. s ⊗ x k) (e k)) ∙ h ∙ sym (e j)

  row_scaled : (n j : ℕ) (x u v : ℕ → Num) (b : Num) → ((k : ℕ) → u k ≡ b ⊗ v k) → Holds n j x v → Holds n j x u
  row_scaled n j x u v b e h = sum_same n _ _ (λ k hk. ap (λ s. s ⊗ x k) (e k)) ∙ sum-scaled n b v x ∙ ap (λ s. b ⊗ s) h ∙ sym (e j)

  row-sum : (n j : ℕ) (x u v w : ℕ → Num) → ((k : ℕ) → u k ≡ w k ⊕ v k)
      → field_sum F n (λ k. u k ⊗ x k) ≡ field_sum F n (λ k. w k ⊗ x k) ⊕ field_sum F n (λ k. v k ⊗ x k)
  row-sum n j x u v w e = sum_same n _ _ (λ k hk. ap (λ s. s ⊗ x k) (e k)) ∙ sum-plus n w v x

  row-plus : (n j : ℕ) (x u v w : ℕ → Num) → ((k : ℕ) → u k ≡ w k ⊕ v k) → Holds n j x v → Holds n j x w → Holds n j x u
  row-plus n j x u v w e hv hw = row-sum n j x u v w e ∙ ap (λ s. s ⊕ field_sum F n (λ k. v k ⊗ x k)) hw ∙ ap (λ s. w j ⊕ s) hv ∙ sym (e j)

  row-less : (n j : ℕ) (x u v w : ℕ → Num) → ((k : ℕ) → u k ≡ w k ⊕ v k) → Holds n j x v → Holds n j x u → Holds n j x w
  row-less n j x u v w e hv hu = cancel _ (v j) _ (ap (λ s. field_sum F n (λ k. w k ⊗ x k) ⊕ s) (sym hv) ∙ sym (row-sum n j x u v w e) ∙ hu ∙ e j)

  -- ---- a step keeps the solutions
  module _ (n j : ℕ) (x : ℕ → Num) (A : Matrix F) (c p : ℕ) where
    swap-keeps : c < n → p < n → Solves F n A j x → Solves F n (swapped F A c p) j x
    unfolding swapped
    swap-keeps hc hp h r hr = go (eqb r c) refl (eqb r p) refl
      where
        go : (a : Bool) → eqb r c ≡ a → (b : Bool) → eqb r p ≡ b → Holds n j x (swapped F A c p r)
        go true e b f = row_same n j x _ (A p) (λ k. rw e) (h p hp)
        go false e true f = row_same n j x _ (A c) (λ k. rw (e, f)) (h c hc)
        go false e false f = row_same n j x _ (A r) (λ k. rw (e, f)) (h r hr)

    swap-back : c < n → p < n → Solves F n (swapped F A c p) j x → Solves F n A j x
    unfolding swapped
    swap-back hc hp h r hr = go (eqb r c) refl (eqb r p) refl (eqb p c) refl
      where
        go : (a : Bool) → eqb r c ≡ a → (b : Bool) → eqb r p ≡ b → (d : Bool) → eqb p c ≡ d → Holds n j x (A r)
        go true e b f true g = row_same n j x _ _ (λ k. rw (eq-eqb c c refl, eqb-true r c e, eqb-true p c g)) (h c hc)
        go true e b f false g = row_same n j x _ _ (λ k. rw (g, eq-eqb p p refl, eqb-true r c e)) (h p hp)
        go false e true f d g = row_same n j x _ _ (λ k. rw (eq-eqb c c refl, eqb-true r p f)) (h c hc)
        go false e false f d g = row_same n j x _ _ (λ k. rw (e, f)) (h r hr)

    -- A(r, k) again from the reduced row, where its factor is not zero
    restored : (r : ℕ) → eqb r c ≡ false → is_zero (A r c) ≡ false → (k : ℕ) → A r k ≡ reduced F A c r k ⊕ A r c ⊗ normalized F A c k
    unfolding reduced cleared
    restored r e z k = rw (e, z) (sym (⊖-⊕ (A r k) (A r c ⊗ normalized F A c k)))

    reduce-keeps : c < n → A c c ≢ 𝟘 → Solves F n A j x → Solves F n (reduced F A c) j x
    unfolding reduced cleared
    reduce-keeps hc pivot h r hr = go (eqb r c) refl (is_zero (A r c)) refl
      where
        top : Holds n j x (normalized F A c)
        top = row_scaled n j x _ (A c) (inverse (A c c)) (λ k. ⊘-is (A c k) (A c c) ∙ ⊗-comm (A c k) (inverse (A c c))) (h c hc)

        go : (a : Bool) → eqb r c ≡ a → (z : Bool) → is_zero (A r c) ≡ z → Holds n j x (reduced F A c r)
        go true e z f = row_same n j x _ (normalized F A c) (λ k. rw e) top
        go false e true f = row_same n j x _ (A r) (λ k. rw (e, f)) (h r hr)
        go false e false f =
            row-less n j x (A r) (λ k. A r c ⊗ normalized F A c k) _ (restored r e f) (row_scaled n j x _ (normalized F A c) (A r c) (λ k. refl) top) (h r hr)

    reduce-back : c < n → A c c ≢ 𝟘 → Solves F n (reduced F A c) j x → Solves F n A j x
    unfolding reduced cleared
    reduce-back hc pivot h r hr = go (eqb r c) refl (is_zero (A r c)) refl
      where
        top : Holds n j x (normalized F A c)
        top = row_same n j x _ (reduced F A c c) (λ k. rw (eq-eqb c c refl)) (h c hc)

        go : (a : Bool) → eqb r c ≡ a → (z : Bool) → is_zero (A r c) ≡ z → Holds n j x (A r)
        go true e z f = row_scaled n j x _ (normalized F A c) (A c c) (λ k. rw (eqb-true r c e) (⊗-⊘ (A c k) (A c c) pivot)) top
        go false e true f = row_same n j x _ (reduced F A c r) (λ k. rw (e, f)) (h r hr)
        go false e false f =
            row-plus n j x (A r) (λ k. A r c ⊗ normalized F A c k) _ (restored r e f) (row_scaled n j x _ (normalized F A c) (A r c) (λ k. refl) top) (h r hr)

  -- ---- a step makes one more column a unit column
  abbrev Units : ℕ → Matrix F → ℕ → Type 0
  Units n A c = (r k : ℕ) → r < n → k < c → A r k ≡ unit F r k

  off : (r k : ℕ) → r ≢ k → unit F r k ≡ 𝟘
  off r k h = rw (ne_eqb r k h)

  swap-units : (n : ℕ) (A : Matrix F) (c p : ℕ) → c < n → p < n → c ≤ p → Units n A c → Units n (swapped F A c p) c
  unfolding swapped
  swap-units n A c p hc hp cp h r k hr hk = go (eqb r c) refl (eqb r p) refl
    where
      go : (a : Bool) → eqb r c ≡ a → (b : Bool) → eqb r p ≡ b → swapped F A c p r k ≡ unit F r k
      go true e b f =
          let q : r ≡ c = eqb-true r c e in
          rw e (h p k hp hk ∙ off p k (omega arith) ∙ sym (off r k (omega arith)))
      go false e true f =
          let q : r ≡ p = eqb-true r p f in
          rw (e, f) (h c k hc hk ∙ off c k (omega arith) ∙ sym (off r k (omega arith)))
      go false e false f = rw (e, f) (h r k hr hk)

  reduce-units : (n : ℕ) (A : Matrix F) (c : ℕ) → c < n → A c c ≢ 𝟘 → Units n A c → Units n (reduced F A c) (suc c)
  unfolding reduced cleared
  reduce-units n A c hc pivot h r k hr hk = ⊎_elim here before (eq-or-lt_of_le (omega arith))
    where
      here : k ≡ c → reduced F A c r k ≡ unit F r k
      here q = rw q (go (eqb r c) refl (is_zero (A r c)) refl)
        where
          go : (a : Bool) → eqb r c ≡ a → (z : Bool) → is_zero (A r c) ≡ z → reduced F A c r c ≡ unit F r c
          go true e z f = rw e (⊘-self (A c c) pivot)
          go false e true f = rw (e, f) (zero-known (A r c) f)
          go false e false f = rw (e, f) (ap (λ s. A r c ⊖ A r c ⊗ s) (⊘-self (A c c) pivot) ∙ ap (λ s. A r c ⊖ s) (⊗-one (A r c)) ∙ ⊖-self (A r c))

      before : k < c → reduced F A c r k ≡ unit F r k
      before q = go (eqb r c) refl (is_zero (A r c)) refl
        where
          none : normalized F A c k ≡ 𝟘
          none = ap (λ s. s ⊘ A c c) (h c k hc q ∙ off c k (omega arith)) ∙ zero-⊘ (A c c)

          go : (a : Bool) → eqb r c ≡ a → (z : Bool) → is_zero (A r c) ≡ z → reduced F A c r k ≡ unit F r k
          go true e z f =
              let g : r ≡ c = eqb-true r c e in
              rw e (none ∙ sym (off r k (omega arith)))
          go false e true f = rw (e, f) (h r k hr q)
          go false e false f = rw (e, f) (ap (λ s. A r k ⊖ A r c ⊗ s) none ∙ ap (λ s. A r k ⊖ s) (⊗-zero (A r c)) ∙ ⊖-zero (A r k) ∙ h r k hr q)

  -- ---- all columns
  singular-not : (A B : Matrix F) → singular A ≡ solved B → ⊥
  singular-not A B e = zero-not-one cc

  -- B has the solutions of A, and its first c columns are unit columns
  abbrev After : ℕ → Matrix F → ℕ → Matrix F → Type 0
  After n A c B = ((j : ℕ) (x : ℕ → Num) → Solves F n A j x ↔ Solves F n B j x) × Units n B c

  column-after : (n : ℕ) (A C B : Matrix F) (c : ℕ) → c < n → After n A c C → column_solved F n C c ≡ solved B → After n A (suc c) B
  unfolding column_solved swapped
  column-after n A C B c hc (same, units) e = go (is_tiny (size (C p c))) refl e
    where
      p : ℕ
      p = pivot_row F C c (n - (c + 1))

      S : Matrix F
      S = swapped F C c p

      in_rows : (c ≤ p) × (p < n)
      in_rows =
          let h : (c ≤ p) × (p ≤ c + (n - (c + 1))) = pivot-within F C c (n - (c + 1)) in
          (h.0, omega arith)

      top : S c c ≡ C p c
      top = rw (eq-eqb c c refl)

      go : (b : Bool) → is_tiny (size (C p c)) ≡ b → cond b (singular C) (solved (reduced F S c)) ≡ solved B → After n A (suc c) B
      go true f q = absurd (singular-not C B q)
      go false f q =
          let pivot : S c c ≢ 𝟘 = λ z. true≢false (sym zero-tiny ∙ ap (λ s. is_tiny (size s)) (sym z ∙ top) ∙ f) in
          subst (λ (D : Matrix F). After n A (suc c) D) (ap matrix_of q) (
            (λ j x. (
              (λ h. reduce-keeps n j x S c p hc pivot (swap-keeps n j x C c p hc in_rows.1 ((same j x).0 h))),
              (λ h. (same j x).1 (swap-back n j x C c p hc in_rows.1 (reduce-back n j x S c p hc pivot h))),
            )),
            reduce-units n S c hc pivot (swap-units n C c p hc in_rows.1 in_rows.0 units),
          )

  columns-after : (n : ℕ) (A B : Matrix F) (c : ℕ) → c ≤ n → columns_solved F n A c ≡ solved B → After n A c B
  unfolding columns_solved
  columns-after n A B zero hc e =
      subst (λ (D : Matrix F). After n A zero D) (ap matrix_of e) ((λ j x. ((λ h. h), (λ h. h))), (λ r k hr hk. absurd (omega arith)))
  columns-after n A B (suc c) hc e = go (columns_solved F n A c) (λ C q. columns-after n A C c (omega arith) q) refl e
    where
      go : (a : Elimination Num) → ((C : Matrix F) → columns_solved F n A c ≡ solved C → After n A c C) → columns_solved F n A c ≡ a
          → and_then a (λ C. column_solved F n C c) ≡ solved B → After n A (suc c) B
      go (solved C) ih q f = column-after n A C B c hc (ih C q) f
      go (singular C) ih q f = absurd (singular-not C B f)

  -- ---- unit columns give each unknown
  sum-none : (n : ℕ) (f : ℕ → Num) → ((k : ℕ) → k < n → f k ≡ 𝟘) → field_sum F n f ≡ 𝟘
  unfolding field_sum
  sum-none zero f h = refl
  sum-none (suc n) f h = ap (λ s. s ⊕ f n) (sum-none n f (λ k hk. h k (omega arith))) ∙ zero-⊕ (f n) ∙ h n (omega arith)

  sum_one : (n : ℕ) (f : ℕ → Num) (r : ℕ) → r < n → ((k : ℕ) → k < n → k ≢ r → f k ≡ 𝟘) → field_sum F n f ≡ f r
  unfolding field_sum
  sum_one zero f r hr h = absurd (omega arith)
  sum_one (suc n) f r hr h =
      ⊎_elim
      (λ (q : r ≡ n). ap (λ s. s ⊕ f n) (sum-none n f (λ k hk. h k (omega arith) (omega arith))) ∙ zero-⊕ (f n) ∙ ap f (sym q))
      (λ (q : r < n). ap (λ s. s ⊕ f n) (sum_one n f r q (λ k hk. h k (omega arith))) ∙ ap (λ s. f r ⊕ s) (h n (omega arith) (omega arith)) ∙ ⊕-zero (f r))
      (eq-or-lt_of_le (omega arith))

  unit_row : (n : ℕ) (B : Matrix F) → Units n B n → (x : ℕ → Num) (r : ℕ) → r < n → field_sum F n (λ k. B r k ⊗ x k) ≡ x r
  unit_row n B units x r hr =
      sum_one n (λ k. B r k ⊗ x k) r hr (λ k hk ne. ap (λ s. s ⊗ x k) (units r k hr hk ∙ off r k (λ e. ne (sym e))) ∙ zero-⊗ (x k))
      ∙ ap (λ s. s ⊗ x r) (units r r hr hr ∙ on)
      ∙ ⊗-comm 𝟙 (x r)
      ∙ ⊗-one (x r)
    where
      on : unit F r r ≡ 𝟙
      on = rw (eq-eqb r r refl)

  -- ---- the claims. Where A's first n columns are solved, leaving B:

  -- B's first n columns are the unit matrix
  pub solved-units : (n : ℕ) (A B : Matrix F) → gauss_jordan F n A ≡ solved B → (r k : ℕ) → r < n → k < n → B r k ≡ unit F r k
  solved-units n A B e = (columns-after n A B n (omega arith) e).1

  -- whatever the right side j: x solves A's equations exactly if x is column j of B
  pub solved-solves : (n : ℕ) (A B : Matrix F) → gauss_jordan F n A ≡ solved B → (j : ℕ) (x : ℕ → Num) → Solves F n A j x ↔ ((r : ℕ) → r < n → x r ≡ B r j)
  solved-solves n A B e j x =
      let h = columns-after n A B n (omega arith) e in (
        (λ s r hr. sym (unit_row n B h.1 x r hr) ∙ (h.0 j x).0 s r hr),
        (λ s. (h.0 j x).1 (λ r hr. unit_row n B h.1 x r hr ∙ s r hr)),
      )

  -- so column j of B is a solution: row r of A times column j of B is A(r, j)
  pub solved-column : (n : ℕ) (A B : Matrix F) → gauss_jordan F n A ≡ solved B → (j r : ℕ) → r < n → field_sum F n (λ k. A r k ⊗ B k j) ≡ A r j
  solved-column n A B e j = (solved-solves n A B e j (λ k. B k j)).1 (λ r hr. refl)

  -- ---- for a system (1 − Q) x = column j: that is the equation x = column j + Q x, of what comes at once and what comes after a step of Q
  pub one_less : (n : ℕ) (A Q : Matrix F) → ((r k : ℕ) → r < n → k < n → A r k ≡ unit F r k ⊖ Q r k) → (j : ℕ) (x : ℕ → Num)
      → Solves F n A j x ↔ ((r : ℕ) → r < n → x r ≡ A r j ⊕ field_sum F n (λ k. Q r k ⊗ x k))
  one_less n A Q is j x = (
    (λ s r hr. sym (parts r hr) ∙ ap (λ t. t ⊕ field_sum F n (λ k. Q r k ⊗ x k)) (s r hr)),
    (λ s r hr. cancel _ (field_sum F n (λ k. Q r k ⊗ x k)) _ (parts r hr ∙ s r hr)),
  )
    where
      parts : (r : ℕ) → r < n → field_sum F n (λ k. A r k ⊗ x k) ⊕ field_sum F n (λ k. Q r k ⊗ x k) ≡ x r
      parts r hr =
          sym (sum-plus n (A r) (Q r) x)
          ∙ sum_same n (λ k. (A r k ⊕ Q r k) ⊗ x k) (λ k. unit F r k ⊗ x k)
          (λ k hk. ap (λ t. t ⊗ x k) (ap (λ t. t ⊕ Q r k) (is r k hr hk) ∙ ⊖-⊕ (unit F r k) (Q r k)))
          ∙ unit_row n (unit F) (λ r k hr hk. refl) x r hr

  -- elimination of such a system gives the one x with x = column j + Q x
  pub solved-one-less : (n : ℕ) (A B Q : Matrix F) → ((r k : ℕ) → r < n → k < n → A r k ≡ unit F r k ⊖ Q r k) → gauss_jordan F n A ≡ solved B
      → (j : ℕ) (x : ℕ → Num)
      → ((r : ℕ) → r < n → x r ≡ A r j ⊕ field_sum F n (λ k. Q r k ⊗ x k)) ↔ ((r : ℕ) → r < n → x r ≡ B r j)
  solved-one-less n A B Q is e j x = (
    (λ s. (solved-solves n A B e j x).0 ((one_less n A Q is j x).1 s)),
    (λ s. (one_less n A Q is j x).0 ((solved-solves n A B e j x).1 s)),
  )

  -- ---- the system of the fit: its columns n, n + 1 and n + 2 + y are the one solution each of G = K + Q G, F = fallback + Q F and B = T + Q B
  module _ (n : ℕ) (Q : Matrix F) (K fallback : ℕ → Num) (T : Matrix F) where
    abbrev A : Matrix F
    A = system F n Q K fallback T

    system-left : (r k : ℕ) → r < n → k < n → A r k ≡ unit F r k ⊖ Q r k
    unfolding system
    system-left r k hr hk = rw (lt-ltb k n hk) (go (eqb r k))
      where
        go : (b : Bool) → cond b (𝟙 ⊖ Q r k) (neg (Q r k)) ≡ cond b 𝟙 𝟘 ⊖ Q r k
        go true = refl
        go false = sym (⊖-is 𝟘 (Q r k) ∙ zero-⊕ (neg (Q r k)))

    system-K : (r : ℕ) → A r n ≡ K r
    unfolding system
    system-K r = rw (le-ltb n n (omega arith), eq-eqb n n refl)

    system-fallback : (r : ℕ) → A r (n + 1) ≡ fallback r
    unfolding system
    system-fallback r = rw (le-ltb (n + 1) n (omega arith), ne_eqb (n + 1) n (omega arith), eq-eqb (n + 1) (n + 1) refl)

    system-T : (r y : ℕ) → A r (n + 2 + y) ≡ T r y
    unfolding system
    system-T r y =
        let e : n + 2 + y - (n + 2) ≡ y = omega arith in
        rw (le-ltb (n + 2 + y) n (omega arith), ne_eqb (n + 2 + y) n (omega arith), ne_eqb (n + 2 + y) (n + 1) (omega arith), e)

    expected : (B : Matrix F) → gauss_jordan F n A ≡ solved B → (j : ℕ) (b : ℕ → Num) → ((r : ℕ) → A r j ≡ b r) → (x : ℕ → Num)
        → Expected F n Q b x ↔ ((r : ℕ) → r < n → x r ≡ B r j)
    expected B e j b is x =
        let h = solved-one-less n A B Q system-left e j x in (
          (λ s. h.0 (λ r hr. s r hr ∙ ap (λ t. t ⊕ field_sum F n (λ k. Q r k ⊗ x k)) (sym (is r)))),
          (λ s r hr. h.1 s r hr ∙ ap (λ t. t ⊕ field_sum F n (λ k. Q r k ⊗ x k)) (is r)),
        )

    pub system-solves : (B : Matrix F) → gauss_jordan F n A ≡ solved B → (x : ℕ → Num)
        → (Expected F n Q K x ↔ ((r : ℕ) → r < n → x r ≡ B r n))
        × (Expected F n Q fallback x ↔ ((r : ℕ) → r < n → x r ≡ B r (n + 1)))
        × ((y : ℕ) → Expected F n Q (λ r. T r y) x ↔ ((r : ℕ) → r < n → x r ≡ B r (n + 2 + y)))
    system-solves B e x =
        (expected B e n K system-K x, expected B e (n + 1) fallback system-fallback x, (λ y. expected B e (n + 2 + y) (λ r. T r y) (λ r. system-T r y) x))
