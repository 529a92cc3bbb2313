use Rattle.program_lines.proofs.Within.{row_more}
use Rattle.program_lines.proofs.put_rows.Goals as goal

pub loop-i-preserved : goal.loop-i-preserved
loop-i-preserved c = row_more _ _ c.loop-i.invariant c.put_row.ensures
