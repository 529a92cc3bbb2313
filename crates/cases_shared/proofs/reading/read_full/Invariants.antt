-- `cases_shared::reading::read_full` meets its contract. Invariant: what is read lies within the buffer. The measure is what is left of the buffer: a
-- round that goes on has read a byte or more, and no more than is left.
use Rattle.std.proofs.Common.{◌-◌, ◌≤◌, length}
use Rattle.cases_shared.proofs.reading.read_full.Given as goal

abbrev pub invariant-loop-done : goal.invariant-loop-done
invariant-loop-done g l = l.done ≤ length l.buffer

abbrev pub decreases-loop-done : goal.decreases-loop-done
decreases-loop-done g l = length l.buffer - l.done
