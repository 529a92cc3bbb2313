-- The model check: document 01, "Model and signal" (the rules of the Rust's `TryFrom<RawModel>`, on floats, plus status ≤ 3, all floats finite, no minus zero).
use Rattle.std.specs.Prelude.{ℕ, ◌+◌, ◌*◌, Bool, cond, not, ◌||◌, ◌&&◌, List, leb, eqb, Float, length, Ok, Err}
use Rattle.std.specs.Float.{binary64}
use Rattle.std.specs.Float.Ieee.{add, lt, le, eq}
use Rattle.std.specs.Float.Ieee.Scale.{finite}
use Rattle.floats.specs.Floats.{pos_zero, one, abs, half_spread, minus_zero}
use Rattle.model.specs.Status.{status_number}
use Rattle.model.specs.Rows.{row_at}
use Rattle.model.specs.declared.StateEstimate.{StateEstimate}
use Rattle.model.specs.declared.StateStatus.{StateStatus}
use Rattle.model.specs.declared.StateStatus.TheVariants.{Calibrated, Rare, NoPriceMove, OutsideQuotes}
use Rattle.refusals.specs.Refusals.{refuse_if, first_of, first_from, Check}
use Rattle.refusals.specs.declared.Refusal.TheVariants.{ModelRow}
use Rattle.config.specs.Configuration.{states, check_config}
use Rattle.config.specs.declared.MicroPriceConfig.{MicroPriceConfig}
use Rattle.quotes.specs.States.{spread_in, bucket_in, mirror_of}

-- half the spread of state i: tick × spread / 2
abbrev pub half_spread_of : MicroPriceConfig → ℕ → Float
half_spread_of c i = half_spread c.tick_size (spread_in c.imbalance_buckets i)

abbrev pub has_status : StateStatus → StateEstimate → Bool
has_status s e = eqb e.status (status_number s)

-- ---- the rules of one row, e the estimate of state i

abbrev pub bucket_is : MicroPriceConfig → ℕ → StateEstimate → Bool
bucket_is c i e = eqb e.imbalance_bucket (bucket_in c.imbalance_buckets i + 1)

abbrev pub spread_is : MicroPriceConfig → ℕ → StateEstimate → Bool
spread_is c i e = eqb e.spread_ticks (spread_in c.imbalance_buckets i)

abbrev pub status_known : StateEstimate → Bool
status_known e = leb e.status 3

abbrev pub floats_finite : StateEstimate → Bool
floats_finite e = finite e.first_adjustment && finite e.adjustment && finite e.fallback_within_moves

abbrev pub no_minus_zero : StateEstimate → Bool
no_minus_zero e =
    not (minus_zero e.first_adjustment) && not (minus_zero e.adjustment) && not (minus_zero e.fallback_within_moves)

-- the share is in 0..1
abbrev pub share_in_range : StateEstimate → Bool
share_in_range e = le pos_zero e.fallback_within_moves && le e.fallback_within_moves one

-- Rare and NoPriceMove: share 1 and adjustment 0
abbrev pub fallback_at_mid : StateEstimate → Bool
fallback_at_mid e =
    not (has_status Rare e || has_status NoPriceMove e) || (eq e.fallback_within_moves one && eq e.adjustment pos_zero)

-- Calibrated: the adjustment's size is at most half the spread
abbrev pub inside_quotes : MicroPriceConfig → ℕ → StateEstimate → Bool
inside_quotes c i e = not (has_status Calibrated e) || le (abs e.adjustment) (half_spread_of c i)

-- OutsideQuotes: it is more
abbrev pub outside_quotes : MicroPriceConfig → ℕ → StateEstimate → Bool
outside_quotes c i e = not (has_status OutsideQuotes e) || lt (half_spread_of c i) (abs e.adjustment)

-- the mirror state's row has the same status and observations, and adjustments that with this row's make zero
abbrev pub state_mirrors : StateEstimate → StateEstimate → Bool
state_mirrors e mirror =
    eqb e.status mirror.status
    && eqb e.observations mirror.observations
    && eq (add binary64 e.adjustment mirror.adjustment) pos_zero
    && eq (add binary64 e.first_adjustment mirror.first_adjustment) pos_zero

unfoldable pub row_fine : MicroPriceConfig → ℕ → StateEstimate → StateEstimate → Bool
row_fine c i e mirror =
    bucket_is c i e
    && spread_is c i e
    && status_known e
    && floats_finite e
    && no_minus_zero e
    && (share_in_range e && fallback_at_mid e)
    && (inside_quotes c i e && outside_quotes c i e)
    && state_mirrors e mirror

-- ---- the table

-- 13 at row i, unless it is fine
abbrev pub check_row : MicroPriceConfig → List ℕ → ℕ → Check
check_row c model i =
    cond (row_fine c i (row_at model i) (row_at model (mirror_of c.imbalance_buckets i))) (Ok tt) (Err (ModelRow i))

-- a table has seven words a state
abbrev pub wrong_length : MicroPriceConfig → List ℕ → Bool
wrong_length c model = not (eqb (length model) (7 * states c))

-- refusals 1 and 7
abbrev pub check_table : MicroPriceConfig → List ℕ → Check
check_table c model = first_of (check_config c) (refuse_if (wrong_length c model) 7)

-- 1, 7, 13 at the first bad row
abbrev pub check_model : MicroPriceConfig → List ℕ → Check
check_model c model = first_of (check_table c model) (first_from (check_row c model) 0 (states c))
