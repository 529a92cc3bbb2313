-- The table that document 01's evening program prints is accepted, and its signals.
use Prim.Native.Nat.{ℕ}
use mathlib.Core.Path.{◌≡◌, refl}
use mathlib.Core.List.{List, [], ◌∷◌, ◌++◌}
use lib.Ieee.{Float, add, lt, le, eq, of_bits, to_bits}
use Rattle.floats.specs.Floats.{pos_zero, abs, half, from_bits}
use Rattle.model.specs.declared.StateStatus.TheVariants.{Rare}
use Rattle.std.specs.Prelude.{Result, Ok}
use Rattle.model_signals.specs.declared.MicroPriceSignal.{MicroPriceSignal}
use Rattle.refusals.specs.declared.Refusal.{Refusal}
use Rattle.quotes.specs.declared.TopOfBook.{TopOfBook}
use Rattle.quotes.proofs.Marked.{marked}
use Rattle.model_check.specs.Check.{row_fine, check_model}
use Rattle.model_signals.specs.Signal.{row_serves, signal_of}
use Rattle.model_signals.specs.declared.SignalSource.{SignalSource}
use Rattle.model_signals.specs.declared.SignalSource.TheVariants.{MicroPrice, MidFallback, SpreadOutOfRange}

abbrev row : ℕ → ℕ → ℕ → ℕ → ℕ → List ℕ
row bucket spread observations adjustment status =
    bucket ∷ spread ∷ observations ∷ adjustment ∷ adjustment ∷ 0x3ff0_0000_0000_0000 ∷ status ∷ []

abbrev table : List ℕ
table =
    row 1 1 1 0xbfe0_0000_0000_0000 0
    ++ row 2 1 0 0 1
    ++ row 3 1 1 0x3fe0_0000_0000_0000 0
    ++ row 1 2 0 0 1
    ++ row 2 2 0 0 1
    ++ row 3 2 0 0 1

abbrev quote : ℕ → ℕ → ℕ → TopOfBook
quote ask x y = record { timestamp_ms = 7; bid = 100; ask = ask; bid_size = x; ask_size = y }

-- the signal of a quote at time 7: bid + ask, adjustment and source
abbrev signal : ℕ → Float → SignalSource → Result MicroPriceSignal Refusal
signal mid-sum adjustment source = Ok (record { timestamp_ms = 7; mid_sum = mid-sum; adjustment = adjustment; source = source })

pub printed-checked : check_model (marked 1) table ≡ Ok tt
unfolding row_fine abs half add lt le eq of_bits to_bits
printed-checked = refl

-- not at the mid
pub printed-micro : signal_of (marked 1) table (quote 101 9 1) ≡ signal 201 (from_bits 0x3fe0_0000_0000_0000) MicroPrice
unfolding row_serves abs half le of_bits
printed-micro = refl

pub printed-rare : signal_of (marked 1) table (quote 102 5 5) ≡ signal 202 pos_zero (MidFallback Rare)
unfolding row_serves abs half le of_bits
printed-rare = refl

pub printed-wide : signal_of (marked 1) table (quote 103 5 5) ≡ signal 203 pos_zero SpreadOutOfRange
printed-wide = refl
