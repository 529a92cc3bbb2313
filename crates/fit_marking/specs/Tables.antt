-- The cells of the tables that a `PairTables` lends.
use Rattle.std.specs.Prelude.{ℕ}
use Rattle.fit_marking.specs.Marks.{Cells, cells_of}
use Rattle.fit_marking.specs.declared.PairTables.{PairTables}

abbrev pub cells_in : PairTables → ℕ → Cells
cells_in t least = cells_of t.states least t.stay.now t.moved.now
