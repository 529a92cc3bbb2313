-- `program_lines::put_row_floats` meets its contract: words 3, 4 and 5 of the row as bits, one after another (`both`), 17 bytes each.
use Rattle.program_lines.proofs.Within.{both}
use Rattle.program_lines.proofs.put_row_floats.Goals as goal

pub returns : goal.returns
returns c =
    rw (← c.row_word.ensures, ← c.row_word-2.ensures, ← c.row_word-3.ensures)
    (both (both c.put_bits.ensures c.put_bits-2.ensures) c.put_bits-3.ensures)
