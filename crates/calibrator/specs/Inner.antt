-- For the contracts and proofs of inner functions alone: the record after an accepted quote, the counters after a pair or a skip, and an event
-- counted.
use Rattle.std.specs.Prelude.{ℕ, ◌+◌, ◌≤◌, max, nat_abs, Result, Some, Ok, Err}
use Rattle.basics.specs.Domain.{most_half_ticks}
use Rattle.tally.specs.Totals.{change}
use Rattle.refusals.specs.Refusals.{refuse_if, Check}
use Rattle.refusals.specs.declared.Refusal.{Refusal}
use Rattle.config.specs.declared.MicroPriceConfig.{MicroPriceConfig}
use Rattle.quotes.specs.Inner.{Located}
use Rattle.quotes.specs.declared.Pair.{Pair}
use Rattle.quotes.specs.declared.Skip.{Skip}
use Rattle.quotes.specs.declared.Skip.TheVariants.{Gap, Spread}
use Rattle.quotes.specs.declared.TopOfBook.{TopOfBook}
use Rattle.tally.specs.Events.{Event, entered}
use Rattle.tally.specs.Rules.{Memory}
use Rattle.tally.specs.declared.PairEntry.{PairEntry}
use Rattle.calibrator.specs.declared.Counters.{Counters}
use Rattle.calibrator.specs.Record.{Previous, Outcome, answered}
use Rattle.calibrator.specs.declared.Record.{Record}
use Rattle.config.specs.Configuration.{states}
use Rattle.quotes.specs.States.{mirror_of}
use Rattle.tally.specs.Limits.{touched}
use Rattle.calibrator.specs.Observe.{judge_after}

abbrev pub skip_count : Counters → Skip → ℕ
skip_count k Gap = k.skipped_gap_pairs
skip_count k Spread = k.skipped_spread_pairs

abbrev pub add_skip : Counters → Skip → Counters
add_skip k Gap =
    record {
      pairs = k.pairs;
      skipped_spread_pairs = k.skipped_spread_pairs;
      skipped_gap_pairs = k.skipped_gap_pairs + 1;
      largest_move_half_ticks = k.largest_move_half_ticks;
    }
add_skip k Spread =
    record {
      pairs = k.pairs;
      skipped_spread_pairs = k.skipped_spread_pairs + 1;
      skipped_gap_pairs = k.skipped_gap_pairs;
      largest_move_half_ticks = k.largest_move_half_ticks;
    }

abbrev pub add_pair : Counters → PairEntry → Counters
add_pair k e =
    record {
      pairs = k.pairs + 1;
      skipped_spread_pairs = k.skipped_spread_pairs;
      skipped_gap_pairs = k.skipped_gap_pairs;
      largest_move_half_ticks = max k.largest_move_half_ticks (nat_abs (change e.mid_from e.mid_to));
    }

abbrev pub accepted : Counters → TopOfBook → Record
accepted k q = record { previous = Some q; counters = k }

-- a refusal, or what follows
abbrev pub unless_refused : Check → Record → Result Record Refusal
unless_refused (Ok _) r = Ok r
unless_refused (Err x) r = Err x

abbrev pub entry_of : Pair → PairEntry
entry_of p =
    record {
      from = p.from.state;
      to = p.to.state;
      mirror_from = p.from.mirror;
      mirror_to = p.to.mirror;
      mid_from = p.mid_from;
      mid_to = p.mid_to;
    }

-- what is known of a pair that two accepted quotes make
pub record Countable (c : MicroPriceConfig) (p : Pair) : Type 0 where
  pub from_at : Located c p.from
  pub to_at : Located c p.to
  pub mid-from-most : p.mid_from ≤ most_half_ticks
  pub mid-to-most : p.mid_to ≤ most_half_ticks

abbrev pub judge_pair : MicroPriceConfig → TopOfBook → TopOfBook → Check
judge_pair c p q = judge_after c (Some p) q

-- an event counted, where nothing before 6 refuses
abbrev pub counted_as : MicroPriceConfig → Memory Previous → TopOfBook → Event → Outcome Previous
counted_as c m q e =
    let after = entered (states c) (mirror_of c.imbalance_buckets) e m.counts in
    answered (refuse_if (touched (states c) (mirror_of c.imbalance_buckets) e after) 6) m (record { last = Some q; counts = after })
