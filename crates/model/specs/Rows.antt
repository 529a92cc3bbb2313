-- The rows of the model table, written and read: document 01, "The fit".
use Rattle.std.specs.Prelude.{ℕ, ◌+◌, ◌*◌, List, [], ◌∷◌, Float, get_or}
use Rattle.floats.specs.Floats.{bits_of, from_bits, plus_zero}
use Rattle.model.specs.declared.StateEstimate.{StateEstimate}

-- ---- writing

-- a float's bits, zero as plus zero
abbrev pub float_word : Float → ℕ
float_word x = bits_of (plus_zero x)

-- seven words a state: bucket + 1 (the estimate's bucket, which is from 1), spread, observations, bits of first adjustment, adjustment and share, status
abbrev pub row_words : StateEstimate → List ℕ
row_words e =
    e.imbalance_bucket ∷
    e.spread_ticks ∷
    e.observations ∷
    float_word e.first_adjustment ∷
    float_word e.adjustment ∷
    float_word e.fallback_within_moves ∷
    e.status ∷
    []

-- ---- reading

-- word k of row i
abbrev pub row_word : List ℕ → ℕ → ℕ → ℕ
row_word model i k = get_or model (7 * i + k) 0

-- row i, its words as they are and its floats by their bits
abbrev pub row_at : List ℕ → ℕ → StateEstimate
row_at model i =
    record {
      imbalance_bucket = row_word model i 0;
      spread_ticks = row_word model i 1;
      observations = row_word model i 2;
      first_adjustment = from_bits (row_word model i 3);
      adjustment = from_bits (row_word model i 4);
      fallback_within_moves = from_bits (row_word model i 5);
      status = row_word model i 6;
    }

-- an estimate with each zero as plus zero: what its row holds, by the law row-back
abbrev pub plus_zeros : StateEstimate → StateEstimate
plus_zeros e =
    record {
      imbalance_bucket = e.imbalance_bucket;
      spread_ticks = e.spread_ticks;
      observations = e.observations;
      first_adjustment = plus_zero e.first_adjustment;
      adjustment = plus_zero e.adjustment;
      fallback_within_moves = plus_zero e.fallback_within_moves;
      status = e.status;
    }
