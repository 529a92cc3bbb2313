-- For the contracts and proofs of inner functions alone: what is known of a valid configuration, as facts on numbers. The law valid-known gives them.
use Rattle.std.specs.Prelude.{◌%◌, ◌≤◌, ◌≡◌}
use Rattle.basics.specs.Domain.{most}
use Rattle.config.specs.Configuration.{states}
use Rattle.config.specs.declared.MicroPriceConfig.{MicroPriceConfig}

pub record Valid (c : MicroPriceConfig) : Type 0 where
  pub tick-least : 1 ≤ c.tick_size
  pub tick-most : c.tick_size ≤ most
  pub n-least : 3 ≤ c.imbalance_buckets
  pub n-odd : c.imbalance_buckets % 2 ≡ 1
  pub n-most : c.imbalance_buckets ≤ 256
  pub s-least : 1 ≤ c.spread_states
  pub s-most : c.spread_states ≤ 256
  pub states-most : states c ≤ 256
  pub least-least : 1 ≤ c.min_state_observations
  pub gap-least : 1 ≤ c.max_quote_gap_ms
