-- `fit_system::fill_stay` meets its contract: each place is written. Invariant: those so far are, the others are as they were (`Rewriting`).
use Rattle.fit_linear.proofs.Parts.{Rewriting}
use Rattle.fit_system.specs.Inner.{stay_part}
use Rattle.fit_system.proofs.fill_stay.Given as goal

abbrev pub invariant-loop-k : goal.invariant-loop-k
invariant-loop-k l = Rewriting (stay_part l.cells l.x l.observed) l.fn.out l.k l.out
