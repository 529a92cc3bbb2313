-- A memory with a counter for each kind of skip is a record's with its tables.
use mathlib.Core.Path.{◌≡◌, ap}
use mathlib.Core.List.{List}
use Prim.Native.Nat.{ℕ}
use lib.ListN.{length}
use Rattle.basics.proofs.Lists.{tab-get_or}
use Rattle.config.specs.declared.MicroPriceConfig.{MicroPriceConfig}
use Rattle.quotes.specs.declared.Skip.TheVariants.{Gap, Spread}
use Rattle.tally.specs.Rules.{Memory}
use Rattle.calibrator.specs.Record.{kinds, skipped, memory, Previous}
use Rattle.calibrator.specs.Observe.{rule}
use Rattle.calibrator.specs.declared.Record.{Record}

abbrev pub record_of : Memory Previous → Record
record_of m =
    record {
      previous = m.last;
      counters =
          record {
            pairs = m.counts.pairs;
            skipped_spread_pairs = skipped Spread m.counts;
            skipped_gap_pairs = skipped Gap m.counts;
            largest_move_half_ticks = m.counts.largest;
          };
    }

pub record-back : (c : MicroPriceConfig) (m : Memory Previous) → length m.counts.skips ≡ (rule c).kinds
    → memory (record_of m) m.counts.tables.stay m.counts.tables.moved m.counts.tables.totals ≡ m
record-back c m e =
    ap
    (λ (l : List ℕ).
    record {
      last = m.last;
      counts =
          record { pairs = m.counts.pairs; skips = l; largest = m.counts.largest; tables = m.counts.tables };
    })
    (tab-get_or m.counts.skips kinds 0 e)
