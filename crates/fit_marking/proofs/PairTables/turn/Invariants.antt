use Rattle.fit_marking.proofs.Turns.{Pass}
use Rattle.fit_marking.proofs.PairTables.turn.Given as goal

abbrev pub invariant-loop-x : goal.invariant-loop-x
invariant-loop-x l = Pass l.self.states l.self.stay.now l.initial.marks l.marks l.freed l.x
