-- Refusal 6: document 01, "New, and one quote".
use Rattle.std.specs.Prelude.{ℕ, Bool, false, ◌||◌, ltb, get_or}
use Rattle.basics.specs.Lists.{any}
use Rattle.basics.specs.Domain.{counter_limit}
use Rattle.tally.specs.Entries.{over_cell, over_total, touched_over, forth, back}
use Rattle.tally.specs.Events.{Event, first, skip, pair, Counts}

abbrev pub over_counter : ℕ → Bool
over_counter n = ltb counter_limit n

-- in the counts after the event, what it added to is over its limit
abbrev pub touched : ℕ → (ℕ → ℕ) → Event → Counts → Bool
touched N mirror first c = false
touched N mirror (skip k) c = over_counter (get_or c.skips k 0)
touched N mirror (pair i j d) c =
    over_counter c.pairs || touched_over N (forth i j d) (back mirror i j d) c.tables

-- something is over its limit
abbrev pub over_limit : Counts → Bool
over_limit c =
    over_counter c.pairs
    || any over_counter c.skips
    || any over_cell c.tables.stay
    || any over_cell c.tables.moved
    || any over_total c.tables.totals
