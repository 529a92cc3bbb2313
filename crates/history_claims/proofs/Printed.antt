-- The two quotes of document 01's printed example, as calls on a new calibrator, and the fit after them: the six rows that 01 prints. What the calls leave is
-- computed; its fit is that of `fits-computed`.
use Prim.Native.Nat.{ℕ}
use mathlib.Core.Path.{◌≡◌}
use mathlib.Core.List.{List, [], ◌∷◌}
use Rattle.quotes.specs.declared.TopOfBook.{TopOfBook}
use Rattle.quotes.proofs.Marked.{marked}
use Rattle.history.specs.Calls.{Call, quote}
use Rattle.history.specs.Demand.{left}
use Rattle.fit.proofs.Fitted.{outcome_of, succeeds, printed-model, fits-computed}

abbrev quoted : ℕ → ℕ → ℕ → ℕ → ℕ → TopOfBook
quoted time bid ask x y = record { timestamp_ms = time; bid = bid; ask = ask; bid_size = x; ask_size = y }

abbrev pub printed-calls : List Call
printed-calls = quote (quoted 0 100 101 9 1) ∷ quote (quoted 1 100 102 5 5) ∷ []

pub fit-printed-calls : outcome_of (marked 1) (left (marked 1) printed-calls) ≡ succeeds 6 printed-model
fit-printed-calls = fits-computed.printed
