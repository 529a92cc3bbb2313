-- A configuration: document 01, "New, and one quote".
use Rattle.std.specs.Prelude.{ℕ, ◌*◌, ◌%◌, Bool, not, ◌&&◌, List, [], ◌∷◌, leb, eqb, length, get_or}
use Rattle.basics.specs.Domain.{most}
use Rattle.basics.specs.Lists.{same_words}
use Rattle.refusals.specs.Refusals.{refuse_if, Check}
use Rattle.config.specs.declared.MicroPriceConfig.{MicroPriceConfig}

-- tick, buckets and spread states alone take the defaults 100 and 5,000, which document 02, Q-5, puts in place of 01's 60,000
abbrev pub new_config : ℕ → ℕ → ℕ → MicroPriceConfig
new_config tick n s =
    record {
      tick_size = tick;
      imbalance_buckets = n;
      spread_states = s;
      min_state_observations = 100;
      max_quote_gap_ms = 5000;
    }

abbrev pub with_min_state_observations : MicroPriceConfig → ℕ → MicroPriceConfig
with_min_state_observations c least =
    record {
      tick_size = c.tick_size;
      imbalance_buckets = c.imbalance_buckets;
      spread_states = c.spread_states;
      min_state_observations = least;
      max_quote_gap_ms = c.max_quote_gap_ms;
    }

abbrev pub with_max_quote_gap_ms : MicroPriceConfig → ℕ → MicroPriceConfig
with_max_quote_gap_ms c gap =
    record {
      tick_size = c.tick_size;
      imbalance_buckets = c.imbalance_buckets;
      spread_states = c.spread_states;
      min_state_observations = c.min_state_observations;
      max_quote_gap_ms = gap;
    }

-- N, the number of states: n × s
abbrev pub states : MicroPriceConfig → ℕ
states c = c.imbalance_buckets * c.spread_states

-- n odd and ≥ 3, s ≥ 1, n × s ≤ 256
abbrev pub shape : ℕ → ℕ → Bool
shape n s = leb 3 n && eqb (n % 2) 1 && leb 1 s && leb (n * s) 256

-- tick in the domain, such a shape, the last two ≥ 1
abbrev pub valid : MicroPriceConfig → Bool
valid c =
    leb 1 c.tick_size
    && leb c.tick_size most
    && shape c.imbalance_buckets c.spread_states
    && leb 1 c.min_state_observations
    && leb 1 c.max_quote_gap_ms

-- refusal 1
abbrev pub check_config : MicroPriceConfig → Check
check_config c = refuse_if (not (valid c)) 1

-- ---- its words

-- how many they are
abbrev pub config_length : ℕ
config_length = 5

abbrev pub is_config : List ℕ → Bool
is_config w = eqb (length w) config_length

-- tick, buckets, spread states, least observations, largest gap
abbrev pub config_words : MicroPriceConfig → List ℕ
config_words c =
    c.tick_size ∷ c.imbalance_buckets ∷ c.spread_states ∷ c.min_state_observations ∷ c.max_quote_gap_ms ∷ []

-- the configuration of such words, by its constructor and setters
abbrev pub config_of : List ℕ → MicroPriceConfig
config_of w =
    with_max_quote_gap_ms (with_min_state_observations (new_config (get_or w 0 0) (get_or w 1 0) (get_or w 2 0)) (get_or w 3 0)) (get_or w 4 0)

abbrev pub same_config : MicroPriceConfig → MicroPriceConfig → Bool
same_config c d = same_words (config_words c) (config_words d)
