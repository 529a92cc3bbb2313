-- `program_lines::put_rows` meets its contract. Invariant: the lines of states 0 to i - 1 are written, in at most 156 × i bytes. One row more is
-- `row_more`.
use Rattle.std.proofs.Common.{◌*◌}
use Rattle.program_lines.specs.Lines.{row_lines}
use Rattle.program_lines.specs.Inner.{WroteIn}
use Rattle.program_lines.proofs.put_rows.Given as goal

abbrev pub invariant-loop-i : goal.invariant-loop-i
invariant-loop-i l = WroteIn (156 * l.i) l.fn.out (row_lines l.model l.i) l.out
