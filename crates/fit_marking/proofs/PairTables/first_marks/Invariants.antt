-- `fit_marking::PairTables::first_marks` meets its contract: the places 0 to n − 1 get the marks of their states by the states' own rows, and no other place
-- changes. Invariant: of the first n places x are stored, and those from x on are as they were (`Stored`).
use lib.ListN.{take}
use Rattle.basics.proofs.Stores.{Stored}
use Rattle.model.specs.declared.StateStatus.TheVariants.{Calibrated}
use Rattle.fit_marking.specs.Inner.{first_mark}
use Rattle.fit_marking.proofs.PairTables.first_marks.Given as goal

abbrev pub invariant-loop-x : goal.invariant-loop-x
invariant-loop-x l = Stored Calibrated (first_mark l.self.states l.least l.self.stay.now l.self.moved.now) l.x (take l.self.states l.fn.marks) l.mark-items
