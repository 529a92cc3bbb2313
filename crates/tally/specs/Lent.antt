-- The three tables as code is lent them.
use Rattle.std.specs.Prelude.{◌≡◌, length}
use Rattle.tally.specs.Entries.{Tables, tables}
use Rattle.tally.specs.declared.LentTables.{LentTables}
use Rattle.tally.specs.declared.TablesView.{TablesView}

-- what they hold
abbrev pub tables_of : LentTables → Tables
tables_of t = tables t.stay.now t.moved.now t.move_half_ticks.now

abbrev pub tables_in : TablesView → Tables
tables_in t = tables t.stay.now t.moved.now t.move_half_ticks.now

-- the same three slices, whatever they hold: none is longer or shorter
pub record SameSlices (before after : LentTables) : Type 0 where
  pub stay-same : after.stay.ghost_name ≡ before.stay.ghost_name
  pub moved-same : after.moved.ghost_name ≡ before.moved.ghost_name
  pub totals-same : after.move_half_ticks.ghost_name ≡ before.move_half_ticks.ghost_name
  pub stay-long : length after.stay.now ≡ length before.stay.now
  pub moved-long : length after.moved.now ≡ length before.moved.now
  pub totals-long : length after.move_half_ticks.now ≡ length before.move_half_ticks.now
