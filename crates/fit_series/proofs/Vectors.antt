-- Only the first n numbers of a vector count: products, the largest, the series and the share of vectors that agree there agree there. For a caller whose
-- definition has vectors and whose list holds them.
use Prim.Native.Nat.{ℕ, zero, suc, ◌<◌}
use mathlib.Core.Path.{◌≡◌, refl, sym, ap, ◌∙◌}
use mathlib.Core.Bool.{Bool, true, false, cond}
use native.Mathlib.Omega.{arith}
use Rattle.fit_linear.specs.Arithmetic.{Arith}
use Rattle.fit_series.specs.Series.{Series, converged, not_converged, Vector, dot, times, plus, largest, summed, share_after}

-- the first n numbers are the same
abbrev pub SameVector : {Num : Type 0} → ℕ → (ℕ → Num) → (ℕ → Num) → Type 0
SameVector n u v = (k : ℕ) → k < n → u k ≡ v k

abbrev pub SameSeries : {Num : Type 0} → ℕ → Series Num → Series Num → Type 0
SameSeries n (converged s t) (converged s' t') = SameVector n s s' × SameVector n t t'
SameSeries n (converged s t) (not_converged s' t') = ⊥
SameSeries n (not_converged s t) (converged s' t') = ⊥
SameSeries n (not_converged s t) (not_converged s' t') = SameVector n s s' × SameVector n t t'

module _ (F : Arith) where
  open F use {Num, ◌⊕◌, ◌⊗◌, size, max, is_infinite, is_tiny}

  infixl 65 ◌⊕◌
  infixl 70 ◌⊗◌
  -- left to right: one product more is added last
  pub dot-more : (n : ℕ) (u v : Vector F) → dot F (suc n) u v ≡ dot F n u v ⊕ u n ⊗ v n
  unfolding dot
  dot-more n u v = refl

  pub dot-same : (n : ℕ) (u v u' v' : Vector F) → SameVector n u u' → SameVector n v v' → dot F n u v ≡ dot F n u' v'
  unfolding dot
  dot-same zero u v u' v' a b = refl
  dot-same (suc n) u v u' v' a b =
      dot-more n u v
      ∙ ap (λ s. s ⊕ u n ⊗ v n) (dot-same n u v u' v' (λ k h. a k (omega arith)) (λ k h. b k (omega arith)))
      ∙ ap (λ s. dot F n u' v' ⊕ s ⊗ v n) (a n (omega arith))
      ∙ ap (λ s. dot F n u' v' ⊕ u' n ⊗ s) (b n (omega arith))
      ∙ sym (dot-more n u' v')

  pub largest-same : (n : ℕ) (v v' : Vector F) → SameVector n v v' → largest F n v ≡ largest F n v'
  unfolding largest
  largest-same zero v v' a = refl
  largest-same (suc n) v v' a =
      ap (λ s. max s (size (v n))) (largest-same n v v' (λ k h. a k (omega arith)))
      ∙ ap (λ s. max (largest F n v') (size s)) (a n (omega arith))

  module _ (n : ℕ) (B B' : ℕ → Vector F) (same : (i j : ℕ) → i < n → j < n → B i j ≡ B' i j) where
    times-same : (v v' : Vector F) → SameVector n v v' → SameVector n (times F n B v) (times F n B' v')
    times-same v v' a i h = dot-same n (B i) v (B' i) v' (λ j g. same i j h g) a

    plus-same : (u v u' v' : Vector F) → SameVector n u u' → SameVector n v v' → SameVector n (plus F u v) (plus F u' v')
    plus-same u v u' v' a b k h = ap (λ s. s ⊕ v k) (a k h) ∙ ap (λ s. u' k ⊕ s) (b k h)

    pub series-same : (left : ℕ) (s t s' t' : Vector F) → SameVector n s s' → SameVector n t t'
        → SameSeries n (summed F n B left s t) (summed F n B' left s' t')
    unfolding summed
    series-same zero s t s' t' a b = (a, b)
    series-same (suc left) s t s' t' a b =
        rw (largest-same n (times F n B t) (times F n B' t') next)
        (go (is_infinite most) (is_tiny most)
        (series-same left (plus F s (times F n B t)) (times F n B t) (plus F s' (times F n B' t')) (times F n B' t') total next))
      where
        next : SameVector n (times F n B t) (times F n B' t')
        next = times-same t t' b

        total : SameVector n (plus F s (times F n B t)) (plus F s' (times F n B' t'))
        total = plus-same s (times F n B t) s' (times F n B' t') a next

        most : Num
        most = largest F n (times F n B' t')

        go : (p q : Bool)
            → SameSeries n (summed F n B left (plus F s (times F n B t)) (times F n B t)) (summed F n B' left (plus F s' (times F n B' t')) (times F n B' t'))
            → SameSeries n
            (cond p (not_converged (plus F s (times F n B t)) (times F n B t))
            (cond q (converged (plus F s (times F n B t)) (times F n B t)) (summed F n B left (plus F s (times F n B t)) (times F n B t))))
            (cond p (not_converged (plus F s' (times F n B' t')) (times F n B' t'))
            (cond q (converged (plus F s' (times F n B' t')) (times F n B' t')) (summed F n B' left (plus F s' (times F n B' t')) (times F n B' t'))))
        go true q rest = (total, next)
        go false true rest = (total, next)
        go false false rest = rest

    pub share-same : (f f' : Vector F) → SameVector n f f' → (rounds : ℕ) → SameVector n (share_after F n B f rounds) (share_after F n B' f' rounds)
    unfolding share_after
    share-same f f' a zero = a
    share-same f f' a (suc rounds) = plus-same f _ f' _ a (times-same _ _ (share-same f f' a rounds))
