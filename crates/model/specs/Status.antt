-- The numbers of the statuses: document 01, "The fit".
use Rattle.std.specs.Prelude.{◌≡◌, ℕ, ◌<◌, Bool, true, false, Result, MatchResult}
use Rattle.model.specs.declared.StateStatus.{StateStatus}
use Rattle.model.specs.declared.StateStatus.TheVariants.{Calibrated, Rare, NoPriceMove, OutsideQuotes}
use Rattle.model.specs.declared.UnknownStatus.{UnknownStatus}

-- status 0 Calibrated, 1 Rare, 2 NoPriceMove, 3 OutsideQuotes
abbrev pub status_number : StateStatus → ℕ
status_number Calibrated = 0
status_number Rare = 1
status_number NoPriceMove = 2
status_number OutsideQuotes = 3

-- the result is the status with this number, or an error with a number that no status has
abbrev pub StatusRead : ℕ → Result StateStatus UnknownStatus → Type 0
StatusRead number r = MatchResult r (λ status. status_number status ≡ number) (λ e. (e.0 ≡ number) × (3 < number))

abbrev pub is_calibrated : StateStatus → Bool
is_calibrated Calibrated = true
is_calibrated Rare = false
is_calibrated NoPriceMove = false
is_calibrated OutsideQuotes = false
