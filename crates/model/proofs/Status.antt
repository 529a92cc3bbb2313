-- The numbers of the statuses, written and read back.
use Rattle.std.proofs.Common.{◌≡◌, ℕ, zero, suc, ◌≤◌, refl, ◌∙◌, sym, arith}
use Rattle.std.specs.Prelude.{Result, Ok, Err}
use Rattle.model.specs.Status.{status_number, StatusRead}
use Rattle.model.specs.declared.StateStatus.{StateStatus}
use Rattle.model.specs.declared.StateStatus.TheVariants.{Calibrated, Rare, NoPriceMove, OutsideQuotes}
use Rattle.model.specs.declared.UnknownStatus.{UnknownStatus}

-- a status's number is at most 3
pub status-most : (m : StateStatus) → status_number m ≤ 3
status-most Calibrated = omega arith
status-most Rare = omega arith
status-most NoPriceMove = omega arith
status-most OutsideQuotes = omega arith

-- the status whose number is k, for k at most 3
abbrev status_at : ℕ → StateStatus
status_at zero = Calibrated
status_at (suc zero) = Rare
status_at (suc (suc zero)) = NoPriceMove
status_at _ = OutsideQuotes

-- statuses of the same number are the same
pub status-only : (a b : StateStatus) → status_number a ≡ status_number b → a ≡ b
status-only a b e = sym (back a) ∙ (λ j. status_at (e j)) ∙ back b
  where
    back : (m : StateStatus) → status_at (status_number m) ≡ m
    back Calibrated = refl
    back Rare = refl
    back NoPriceMove = refl
    back OutsideQuotes = refl

-- reading the number of a status gives the status
pub status_back : (m : StateStatus) (r : Result StateStatus UnknownStatus) → StatusRead (status_number m) r → r ≡ Ok m
status_back m (Ok s) h = λ j. Ok (status-only s m h j)
status_back m (Err e) h = absurd (omega (arith, status-most m, h.1))
