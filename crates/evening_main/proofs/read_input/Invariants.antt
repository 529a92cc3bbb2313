-- `evening_main::read_input` meets its contract. Invariant: `at` is within the buffer, and in front of `at` stand the bytes
-- that the reader gave. The measure is what is left of the buffer behind `at`: a round that goes on has read a byte or more, and no more than is left of the
-- buffer; what it read stands behind what was in front (`front_more`). The ways out: a failed read, the end of the input, a full buffer.
use Rattle.std.proofs.Common.{◌-◌, ◌≤◌, length, take}
use Rattle.std.specs.Io.KnownBytes.{Consumes}
use Rattle.evening_main.proofs.read_input.Given as goal

abbrev pub invariant-loop-at : goal.invariant-loop-at
invariant-loop-at g l =
    (l.at ≤ length l.buffer) × Consumes (g.R.Read.remaining l.fn.reader) (g.R.Read.remaining l.reader) (take l.at l.buffer)

abbrev pub decreases-loop-at : goal.decreases-loop-at
decreases-loop-at g l = length l.buffer - l.at
