-- Document 01's domain and limits.
use Rattle.std.specs.Prelude.{ℕ, ◌*◌, ◌^◌}

-- the largest price, size and tick
abbrev pub most : ℕ
most = 1000000000

-- the largest mid in half ticks, of two such prices
abbrev pub most_half_ticks : ℕ
most_half_ticks = 2 * most

-- the limit of a counter of pairs or skips
abbrev pub counter_limit : ℕ
counter_limit = 2 ^ 52

-- the limit of a cell, and of a total's size
abbrev pub cell_limit : ℕ
cell_limit = 2 ^ 53
