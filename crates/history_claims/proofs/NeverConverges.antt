-- 18 of document 01, "Run", from its two quotes as calls on a new calibrator: what they leave is computed, and its fit is `fit-refused-18`.
use Prim.Native.Nat.{ℕ}
use mathlib.Core.Path.{◌≡◌}
use mathlib.Core.List.{List, [], ◌∷◌}
use lib.ListN.{length, replicate}
use lib.Ieee.{Float}
use Rattle.floats.specs.Floats.{pos_zero}
use Rattle.refusals.specs.Refusals.{refusal}
use Rattle.history.specs.Calls.{Call, quote}
use Rattle.history.specs.Demand.{left}
use Rattle.fit.specs.Fit.{end_fit, fit_counts}
use Rattle.fit.proofs.NeverConverges.{config18, fit-refused-18}

-- sizes 9 and 1
abbrev pub quote18 : ℕ → ℕ → ℕ → Call
quote18 time bid ask = quote (record { timestamp_ms = time; bid = bid; ask = ask; bid_size = 9; ask_size = 1 })

-- 0 100 101 9 1 and 1 101 102 9 1
abbrev pub calls18 : List Call
calls18 = quote18 0 100 101 ∷ quote18 1 101 102 ∷ []

pub run-18 : (model : List ℕ) (scratch : List Float) → length scratch ≡ 132 → length model ≡ 42
    → fit_counts config18 (left config18 calls18) model scratch ≡ end_fit (refusal 18) model (replicate (length scratch) pos_zero)
run-18 = fit-refused-18 (left config18 calls18).last
