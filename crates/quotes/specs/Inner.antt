-- For the contracts and proofs of inner functions alone: what is known of an accepted quote and of a state, as facts on numbers. The laws fine-known and
-- place-located give them, level-start, level-same and level-next that of a state's spread level.
use Rattle.std.specs.Prelude.{ℕ, ◌+◌, ◌%◌, ◌≤◌, ◌<◌, ◌≡◌}
use Rattle.basics.specs.Domain.{most}
use Rattle.config.specs.Configuration.{states}
use Rattle.config.specs.declared.MicroPriceConfig.{MicroPriceConfig}
use Rattle.quotes.specs.States.{spread_in, bucket_in, mirror_of}
use Rattle.quotes.specs.declared.At.{At}
use Rattle.quotes.specs.declared.TopOfBook.{TopOfBook}
use Rattle.quotes.specs.declared.inner.Level.{Level}

pub record Accepted (c : MicroPriceConfig) (q : TopOfBook) : Type 0 where
  pub bid-most : q.bid ≤ most
  pub ask-most : q.ask ≤ most
  pub bid-size-most : q.bid_size ≤ most
  pub ask-size-most : q.ask_size ≤ most
  pub bid-least : 1 ≤ q.bid
  pub ask-above : q.bid < q.ask
  pub some_size : 1 ≤ q.bid_size + q.ask_size
  pub bid-whole : q.bid % c.tick_size ≡ 0
  pub ask-whole : q.ask % c.tick_size ≡ 0

-- what is known of a state that a quote has
pub record Located (c : MicroPriceConfig) (a : At) : Type 0 where
  pub below : a.state < states c
  pub mirror-below : a.mirror < states c
  pub mirrors : a.mirror ≡ mirror_of c.imbalance_buckets a.state

-- state i is of the spread level that begins at state first
pub record InLevel (n first i : ℕ) : Type 0 where
  pub begins : bucket_in n first ≡ 0
  pub at_least : first ≤ i
  pub before : i < first + n

-- the spread level of state i
pub record HasLevel (n : ℕ) (level : Level) (i : ℕ) : Type 0 where
  pub spread-is : level.spread ≡ spread_in n i
  pub within : InLevel n level.first i
