-- `quotes::inner::mirror_of` meets its contract: the walk over the spread levels ends at the state's own, where `mirror_in` gives the mirror. Invariant of the
-- loop: a level begins at first (`begins-next`), which is not past the state; measure: the state less first. At the end the next level begins past the state.
use Prim.Native.Nat.{◌-◌, ◌≤◌}
use mathlib.Core.Path.{◌≡◌}
use Rattle.quotes.specs.States.{bucket_in}
use Rattle.quotes.proofs.inner.mirror_of.Given as goal

abbrev pub invariant-loop-first : goal.invariant-loop-first
invariant-loop-first l = (bucket_in l.n l.first ≡ 0) × (l.first ≤ l.state)

abbrev pub decreases-loop-first : goal.decreases-loop-first
decreases-loop-first l = l.state - l.first
