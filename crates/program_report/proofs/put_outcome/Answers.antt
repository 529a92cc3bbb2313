-- `program_report::put_outcome` meets its contract. The ways out: a refusal, one line of at most 29 bytes; a fit, the counters in at most 138 bytes and behind
-- them the fit in at most 4,212 (`both`), together the 4,350 of `most_bytes`. Both are `outcome_lines` of the answer that the match found. No loop.
use Rattle.program_lines.proofs.Within.{both}
use Rattle.program_report.proofs.put_outcome.Goals as goal

pub returns-in-Ok : goal.returns-in-Ok
returns-in-Ok c = rw c.in-Ok.is (both c.put_counters.ensures c.put_fit.ensures)
