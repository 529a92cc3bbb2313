use mathlib.Core.Path.{◌≡◌}
use lib.ListN.{length}
use Rattle.fit_marking.specs.Inner.{waiting, Led}
use Rattle.fit_marking.proofs.PairTables.mark_no_price_move.Given as goal

abbrev pub invariant-loop : goal.invariant-loop
invariant-loop l = (length l.marks ≡ length l.initial.marks) × Led l.self.states l.self.stay.now l.initial.marks l.marks

abbrev pub decreases-loop : goal.decreases-loop
decreases-loop l = waiting l.self.states l.marks
