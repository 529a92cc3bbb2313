-- `fit_system::FitTables::fill_system` meets its contract: the rows one after another. Invariant: for every least count for which the marks are the marks of
-- the cells, as many rows as marks were given so far are those of the system and every other place is as it was.
use Prim.Native.Nat.{ℕ}
use lib.ListN.{length}
use Rattle.fit_marking.specs.Tables.{cells_in}
use Rattle.fit_linear.specs.Inner.{Becomes}
use Rattle.fit_series.specs.Inner.{width}
use Rattle.fit_system.specs.Rows.{system_of, total_of}
use Rattle.fit_system.specs.Inner.{Marks}
use Rattle.fit_system.proofs.FitTables.fill_system.Given as goal

abbrev pub invariant-loop-x : goal.invariant-loop-x
invariant-loop-x l =
    (least : ℕ) → Marks (cells_in l.self.pairs least) l.marks
    → Becomes (length l.yielded) (width l.self.pairs.states) (system_of (cells_in l.self.pairs least) (total_of l.self.move_half_ticks.now)) l.initial.scratch
    l.scratch
