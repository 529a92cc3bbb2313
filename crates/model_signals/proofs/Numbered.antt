-- The numbers of sources.
use Prim.Native.Nat.{ℕ, zero, suc, ◌≤◌}
use mathlib.Core.Path.{◌≡◌, refl}
use native.Mathlib.Omega.{arith}
use Rattle.model.specs.Status.{status_number}
use Rattle.model_signals.specs.Signal.{source_number, status_of, source_of}

-- the status of a number has that number
pub status-numbered : (k : ℕ) → k ≤ 3 → status_number (status_of k) ≡ k
status-numbered zero h = refl
status-numbered (suc zero) h = refl
status-numbered (suc (suc zero)) h = refl
status-numbered (suc (suc (suc zero))) h = refl
status-numbered (suc (suc (suc (suc k)))) h = absurd (omega arith)

-- the source of a row has the number of its status
pub source-numbered : (k : ℕ) → k ≤ 3 → source_number (source_of k) ≡ k
source-numbered zero h = refl
source-numbered (suc zero) h = refl
source-numbered (suc (suc zero)) h = refl
source-numbered (suc (suc (suc zero))) h = refl
source-numbered (suc (suc (suc (suc k)))) h = absurd (omega arith)
