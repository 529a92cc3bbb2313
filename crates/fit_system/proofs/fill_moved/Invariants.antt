-- `fit_system::fill_moved` meets its contract: each place is written. Invariant: those so far are, the others are as they were (`Rewriting`).
use Rattle.fit_linear.proofs.Parts.{Rewriting}
use Rattle.fit_system.specs.Inner.{moved_part}
use Rattle.fit_system.proofs.fill_moved.Given as goal

abbrev pub invariant-loop-k : goal.invariant-loop-k
invariant-loop-k l = Rewriting (moved_part l.cells l.observed) l.fn.out l.k l.out
