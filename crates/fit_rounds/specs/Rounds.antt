-- The rounds of a fit, of the series and of the share: document 02, Q-10.
use Rattle.std.specs.Prelude.{ℕ, Bool, ◌||◌, ltb}

-- the defaults, which are document 01's numbers
abbrev pub default_series_rounds : ℕ
default_series_rounds = 10000

abbrev pub default_fallback_rounds : ℕ
default_fallback_rounds = 10

-- the most that are accepted
abbrev pub most_series_rounds : ℕ
most_series_rounds = 10000

abbrev pub most_fallback_rounds : ℕ
most_fallback_rounds = 100

-- outside of the ranges: series rounds 1 to 10,000, fallback rounds 0 to 100
abbrev pub wrong_rounds : ℕ → ℕ → Bool
wrong_rounds series fallback = ltb series 1 || ltb most_series_rounds series || ltb most_fallback_rounds fallback
