-- `count_check::MirroredTables::check_states` meets its contract: it finds the first state that refuses. Loop over i; invariant: the answer for all n states
-- is the answer for those from i on. A state that refuses ends the walk (`first-stop`), one that does not leaves the rest (`first_step`), and of no state left
-- nothing is refused (`first-end`).
use Prim.Native.Nat.{◌-◌}
use mathlib.Core.Path.{◌≡◌}
use lib.ListN.{get_or}
use Rattle.refusals.specs.Refusals.{first_from}
use Rattle.count_check.specs.Mirrors.{check_state}
use Rattle.count_check.proofs.MirroredTables.check_states.Given as goal

abbrev pub invariant-loop-i : goal.invariant-loop-i
invariant-loop-i g l =
    let refused = check_state l.self.n (λ k. get_or l.self.mirrors.now k 0) (g.S.Counted.held l.self.source.now) in
    first_from refused 0 l.self.n ≡ first_from refused l.i (l.self.n - l.i)
