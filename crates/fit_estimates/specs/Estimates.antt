-- The estimate of a state: document 01, "The fit". Generic in the states, their mirrors, buckets and spreads.
use Rattle.std.specs.Prelude.{ℕ, Bool, cond, ◌&&◌, ℤ, Float}
use Rattle.std.specs.Float.{binary64}
use Rattle.std.specs.Float.Ieee.{sub, mul, div, lt, of_bits}
use Rattle.floats.specs.Floats as Floats
use Rattle.floats.specs.Floats.{one, two, half_tick, half_spread}
use Rattle.model.specs.Status.{status_number, is_calibrated}
use Rattle.model.specs.declared.StateEstimate.{StateEstimate}
use Rattle.model.specs.declared.StateStatus.{StateStatus}
use Rattle.model.specs.declared.StateStatus.TheVariants.{Calibrated, Rare, NoPriceMove, OutsideQuotes}
use Rattle.fit_marking.specs.Marks.{Cells, observations, mark_of}
use Rattle.fit_estimates.specs.declared.Solved.{Solved}

-- what a fit is given: the cells, the move totals, the tick, and each state's mirror, bucket from 1 and spread in ticks
pub record Given : Type 0 where
  pub cells : Cells
  pub total : ℕ → ℤ
  pub tick : ℕ
  pub mirror : ℕ → ℕ
  pub bucket : ℕ → ℕ
  pub spread : ℕ → ℕ

-- (own − mirrored) / 2 × (tick / 2)
unfoldable pub adjusted : ℕ → Float → Float → Float
unfolding sub mul div Floats.half of_bits
adjusted tick own mirrored = mul binary64 (div binary64 (sub binary64 own mirrored) two) (half_tick tick)

-- Calibrated becomes OutsideQuotes if the size exceeds half the spread
abbrev pub judged : StateStatus → Float → Float → StateStatus
judged Calibrated half adjustment = cond (lt half (Floats.abs adjustment)) OutsideQuotes Calibrated
judged Rare half adjustment = Rare
judged NoPriceMove half adjustment = NoPriceMove
judged OutsideQuotes half adjustment = OutsideQuotes

-- a state by its bucket, spread, mark and observations, and by what the solution has for it and for its mirror; the share is 1 for a fallback state
unfoldable pub estimate_of : ℕ → ℕ → ℕ → StateStatus → ℕ → Solved → StateEstimate
unfolding adjusted
estimate_of tick bucket spread mark observed s =
    record {
      imbalance_bucket = bucket;
      spread_ticks = spread;
      observations = observed;
      first_adjustment = adjusted tick s.first_own s.first_mirrored;
      adjustment = adjusted tick s.own s.mirrored;
      fallback_within_moves = cond (is_calibrated mark) s.share one;
      status = status_number (judged mark (half_spread tick spread) (adjusted tick s.own s.mirrored));
    }

abbrev pub solved_at : (ℕ → ℕ) → (ℕ → Float) → (ℕ → Float) → (ℕ → Float) → ℕ → Solved
solved_at mirror G1 sum share i =
    record {
      first_own = G1 i;
      first_mirrored = G1 (mirror i);
      own = sum i;
      mirrored = sum (mirror i);
      share = share i;
    }

-- state i, from G1, the sum and the share
abbrev pub estimate : Given → (ℕ → Float) → (ℕ → Float) → (ℕ → Float) → ℕ → StateEstimate
estimate G G1 sum share i =
    estimate_of G.tick (G.bucket i) (G.spread i) (mark_of G.cells i) (observations G.cells i) (solved_at G.mirror G1 sum share i)

-- ---- what can be represented

-- 2^96
abbrev pub big : Float
big = of_bits binary64 0x45f0_0000_0000_0000

-- finite and of size below 2^96
abbrev pub small : Float → Bool
small x = lt (Floats.abs x) big

abbrev pub representable : StateEstimate → Bool
representable e = small e.first_adjustment && (small e.adjustment && small e.fallback_within_moves)
