-- `program_lines::put_row_numbers` meets its contract: the state and words 0, 1 and 2 of the row, one after another (`both`), at most 21 bytes each.
use Rattle.program_lines.proofs.Within.{both}
use Rattle.program_lines.proofs.put_row_numbers.Goals as goal

pub returns : goal.returns
returns c =
    rw (← c.row_word.ensures, ← c.row_word-2.ensures, ← c.row_word-3.ensures)
    (both (both (both c.put_spaced.ensures c.put_spaced-2.ensures) c.put_spaced-3.ensures) c.put_spaced-4.ensures)
