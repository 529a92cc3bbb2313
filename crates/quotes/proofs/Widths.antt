-- The width of a state: its spread in units.
use Prim.Native.Nat.{ℕ, ◌*◌, ◌≤◌, ◌<◌}
use native.Mathlib.Nat.{mul-le-mul, div-le_self}
use native.Mathlib.Omega.{arith}
use Rattle.basics.specs.Domain.{most}
use Rattle.config.specs.Configuration.{states}
use Rattle.config.specs.Inner.{Valid}
use Rattle.config.specs.declared.MicroPriceConfig.{MicroPriceConfig}
use Rattle.quotes.specs.States.{spread_in}

module _ (c : MicroPriceConfig) (v : Valid c) (i : ℕ) (h : i < states c) where
  pub spread-most : spread_in c.imbalance_buckets i ≤ 256
  spread-most = omega (arith, div-le_self i c.imbalance_buckets, v.states-most)

  -- tick × spread of a state: below 2^53, so a float exactly
  pub width-most : c.tick_size * spread_in c.imbalance_buckets i ≤ most * 256
  width-most = mul-le-mul v.tick-most spread-most
