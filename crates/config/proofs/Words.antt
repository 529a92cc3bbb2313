-- The words of a configuration: their number, and there and back.
use Prim.Native.Nat.{ℕ}
use mathlib.Core.Path.{◌≡◌, refl}
use mathlib.Core.Bool.{true, ◌&&◌, and-true}
use mathlib.Core.List.{List}
use lib.Dec.{eqb}
use lib.ListN.{length}
use borrow.Author.Tests.{eqb-true}
use Rattle.basics.proofs.Lists.{tab-get_or}
use Rattle.config.specs.Configuration.{config_length, is_config, config_words, config_of, same_config}
use Rattle.config.specs.declared.MicroPriceConfig.{MicroPriceConfig}

pub config-long : (w : List ℕ) → is_config w ≡ true → length w ≡ config_length
config-long w e = eqb-true (length w) config_length e

pub config-back : (c : MicroPriceConfig) → config_of (config_words c) ≡ c
config-back c = refl

pub config-words-back : (w : List ℕ) → is_config w ≡ true → config_words (config_of w) ≡ w
config-words-back w e = tab-get_or w config_length 0 (config-long w e)

-- the derived test of equality is that of the words
pub same-words-are : (c d : MicroPriceConfig)
    → (eqb c.tick_size d.tick_size && (eqb c.imbalance_buckets d.imbalance_buckets && (eqb c.spread_states d.spread_states
    && (eqb c.min_state_observations d.min_state_observations && eqb c.max_quote_gap_ms d.max_quote_gap_ms)))) ≡ same_config c d
same-words-are c d = simp and-true
