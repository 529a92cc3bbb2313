-- What is known where nothing is refused, and walks over checks at numbers.
use Prim.Native.Nat.{ℕ, zero, suc, ◌+◌, ◌-◌, ◌≤◌, ◌<◌}
use mathlib.Core.Path.{◌≡◌, refl, sym, ap, ◌∙◌}
use mathlib.Core.Bool.{Bool, true, false}
use mathlib.Core.Logic.{⊎_elim}
use native.Mathlib.Nat.{eq-or-lt_of_le}
use native.Mathlib.Numerals.{add-one}
use native.Mathlib.Omega.{arith}
use Rattle.basics.proofs.Tests.{zero-not-one, still, gone}
use Rattle.refusals.specs.Refusals.{refusal, refuse_if, first_of, first_from, Check}
use Rattle.std.specs.Prelude.{Ok, Err}
use Rattle.refusals.specs.declared.Refusal.{Refusal}

-- k the number of a refusal
pub if-fine : (t : Bool) (k : ℕ) {r : Refusal} → refusal k ≡ Err r → refuse_if t k ≡ Ok tt → t ≡ false
if-fine true k h e = absurd (zero-not-one cc)
if-fine false k h e = refl

pub first_fine : (a b : Check) → first_of a b ≡ Ok tt → (a ≡ Ok tt) × (b ≡ Ok tt)
first_fine (Ok _) b e = (refl, e)
first_fine (Err r) b e = absurd (zero-not-one cc)

module _ (f : ℕ → Check) where
  -- where a walk refuses nothing, no check of it does
  pub from-fine : (i k : ℕ) → first_from f i k ≡ Ok tt → (j : ℕ) → i ≤ j → j < i + k → f j ≡ Ok tt
  from-fine i zero e j a b = absurd (omega arith)
  from-fine i (suc k) e j a b =
      let p = first_fine (f i) (first_from f (suc i) k) e in
      ⊎_elim (λ q. ap f (sym q) ∙ p.0) (λ l. from-fine (suc i) k p.1 j l (omega arith)) (eq-or-lt_of_le a)

  -- what is left of a walk by one
  pub first_step : (i m : ℕ) (r : Check) → i < m → r ≡ f i → r ≡ Ok tt → first_from f i (m - i) ≡ first_from f (i + 1) (m - (i + 1))
  first_step i m r h e t = rw (still i m h, ← e, t, add-one)

  pub first-stop : (i m : ℕ) (r : Check) (x : Refusal) → i < m → r ≡ f i → r ≡ Err x → first_from f i (m - i) ≡ r
  first-stop i m r x h e t = rw (still i m h, ← e, t)

  pub first-end : (i m : ℕ) → m ≤ i → first_from f i (m - i) ≡ Ok tt
  first-end i m h = rw (gone i m h)
