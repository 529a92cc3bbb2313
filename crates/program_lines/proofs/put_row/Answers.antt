-- `program_lines::put_row` meets its contract: numbers, floats and status one after another (`both`), at most 84 + 51 + 21 = 156 bytes; the status is word 6 of
-- the row.
use Rattle.program_lines.proofs.Within.{both}
use Rattle.program_lines.proofs.put_row.Goals as goal

pub returns : goal.returns
returns c = rw (← c.row_word.ensures) (both (both c.put_row_numbers.ensures c.put_row_floats.ensures) c.put_named.ensures)
