-- What the check's answers rest on: mirrors of states alone, and a table of mirrors.
use Prim.Native.Nat.{ℕ, ◌≤◌, ◌<◌}
use mathlib.Core.Path.{◌≡◌, ap, ◌∙◌}
use mathlib.Core.Bool.{false, not}
use mathlib.Core.List.{List}
use native.Mathlib.Omega.{arith}
use lib.ListN.{length, get_or}
use Rattle.refusals.specs.Refusals.{refuse_if, first_of, Check}
use Rattle.config.specs.Configuration.{states}
use Rattle.config.specs.Inner.{Valid}
use Rattle.config.specs.declared.MicroPriceConfig.{MicroPriceConfig}
use Rattle.quotes.specs.States.{mirror_of}
use Rattle.quotes.proofs.States.{mirror-below}
use Rattle.tally.specs.Entries.{Tables}
use Rattle.tally.specs.Events.{Counts}
use Rattle.calibrator.specs.Observe.{lent_wrong}
use Rattle.calibrator.proofs.Lengths.{lengths-known}
use Rattle.count_check.specs.Mirrors.{stored_over, total_mirrored, cell_mirrored, row_mirrored, check_state, is_twice, check_counts}
use Rattle.count_check.specs.Inner.{HasTables, Mirrors}
use Rattle.count_check.proofs.Walks.{all-ext, first-ext}

-- tables of the configuration's lengths
pub has-tables : (c : MicroPriceConfig) (t : Tables) → Valid c → lent_wrong (states c) t ≡ false → HasTables (states c) t
has-tables c t v e =
    let z = lengths-known (states c) _ _ _ e in
    record {
      few = v.states-most;
      stay-cells = z.stay-cells;
      moved-cells = z.moved-cells;
      totals-cells = z.totals-cells;
    }

-- mirrors that agree on the states
module _ (N : ℕ) (f g : ℕ → ℕ) (same : (i : ℕ) → i < N → f i ≡ g i) where
  row-ext : (t : Tables) (i : ℕ) → i < N → row_mirrored N f t i ≡ row_mirrored N g t i
  row-ext t i h =
      all-ext (cell_mirrored N f t i) (cell_mirrored N g t i) 0 N (λ j b. rw (same i h, same j (omega arith)))

  state-ext : (t : Tables) (i : ℕ) → i < N → check_state N f t i ≡ check_state N g t i
  state-ext t i h =
      λ d. first_of (refuse_if (not (total_mirrored t.totals i (same i h d))) 9) (refuse_if (not (row-ext t i h d)) 10)

  pub check-ext : (k : Counts) → check_counts N f k ≡ check_counts N g k
  check-ext k =
      ap (λ (w : Check). first_of (refuse_if (stored_over k) 6) (first_of w (refuse_if (not (is_twice k.pairs k.tables)) 11)))
      (first-ext (check_state N f k.tables) (check_state N g k.tables) 0 N (λ i b. state-ext k.tables i (omega arith)))

-- the check by a table of mirrors
pub check-by : (n N : ℕ) (ms : List ℕ) (mirror : ℕ → ℕ) (k : Counts) (r : Check) → n ≡ N → ((i : ℕ) → i < N → get_or ms i 0 ≡ mirror i)
    → r ≡ check_counts n (λ i. get_or ms i 0) k → r ≡ check_counts N mirror k
check-by n N ms mirror k r e same h = h ∙ rw e (check-ext N (λ i. get_or ms i 0) mirror same k)

-- the table of a configuration's mirrors
pub mirrors-known : (c : MicroPriceConfig) (ms : List ℕ) → Valid c → 256 ≤ length ms
    → ((i : ℕ) → i < states c → get_or ms i 0 ≡ mirror_of c.imbalance_buckets i) → Mirrors (states c) ms
mirrors-known c ms v h e =
    record {
      enough = omega (arith, v.states-most);
      below = λ i l. rw (e i l) (mirror-below c.imbalance_buckets i (omega (arith, v.n-least)) c.spread_states l);
    }
