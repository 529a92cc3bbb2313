-- More rounds: a series that has ended is the same with any more. By induction on the rounds: a round that ends one run ends the other.
use Prim.Native.Nat.{ℕ, zero, suc, ◌≤◌}
use mathlib.Core.Path.{◌≡◌, refl, sym, subst, ◌∙◌}
use mathlib.Core.Bool.{Bool, true, false, cond, true≢false}
use native.Mathlib.Omega.{arith}
use Rattle.basics.proofs.Tests.{zero-not-one}
use Rattle.fit_linear.specs.Arithmetic.{Arith}
use Rattle.fit_series.specs.Series.{Series, converged, not_converged, Vector, times, plus, largest, summed, RoundsEnded}

module _ (F : Arith) (n : ℕ) (B : ℕ → Vector F) where
  open F use {Num, is_infinite, is_tiny}

  -- where no round is left the term handed on is not infinite: an infinite one was judged in a round of the run
  more-from : (r r' : ℕ) (sum term : Vector F) → r ≤ r' → (r ≡ 0 → is_infinite (largest F n term) ≡ false) → RoundsEnded F n (summed F n B r sum term)
      → summed F n B r' sum term ≡ summed F n B r sum term
  unfolding summed
  more-from zero r' sum term l k e = absurd (true≢false (sym e ∙ k refl))
  more-from (suc r) zero sum term l k e = absurd (omega arith)
  more-from (suc r) (suc r') sum term l k e = go (is_infinite most) refl (is_tiny most) (more-from r r' total next (omega arith)) e
    where
      next : Vector F
      next = times F n B term

      total : Vector F
      total = plus F sum next

      most : Num
      most = largest F n next

      -- a round's two tests, and the rounds after it
      round : Bool → Bool → Series Num → Series Num
      round p q rest = cond p (not_converged total next) (cond q (converged total next) rest)

      go : (p : Bool) → is_infinite most ≡ p → (q : Bool)
          → ((r ≡ 0 → is_infinite most ≡ false) → RoundsEnded F n (summed F n B r total next) → summed F n B r' total next ≡ summed F n B r total next)
          → RoundsEnded F n (round p q (summed F n B r total next)) → round p q (summed F n B r' total next) ≡ round p q (summed F n B r total next)
      go true h q later d = refl
      go false h true later d = refl
      go false h false later d = later (λ z. h) d

  -- a series that has ended within r rounds is the same with any more; with no round nothing is judged
  pub summed-more : (r r' : ℕ) (sum term : Vector F) → 1 ≤ r → r ≤ r' → RoundsEnded F n (summed F n B r sum term)
      → summed F n B r' sum term ≡ summed F n B r sum term
  summed-more r r' sum term h l = more-from r r' sum term l (λ z. absurd (omega arith))

  -- one that has converged; with no round none has
  pub converged-more : (r r' : ℕ) (sum term s t : Vector F) → r ≤ r' → summed F n B r sum term ≡ converged s t → summed F n B r' sum term ≡ converged s t
  unfolding summed
  converged-more zero r' sum term s t l e = absurd (zero-not-one cc)
  converged-more (suc r) r' sum term s t l e = summed-more (suc r) r' sum term (omega arith) l (subst (RoundsEnded F n) (sym e) tt) ∙ e
