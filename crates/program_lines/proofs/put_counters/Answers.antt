-- `program_lines::put_counters` meets its contract: five lines one after another (`both`), each a word and a number. No loop. The bounds of the lines, 27, 28,
-- 25, 29 and 29 bytes, add up to 138; each line has room since the lines before it kept to theirs.
use Rattle.program_lines.proofs.Within.{both}
use Rattle.program_lines.proofs.put_counters.Goals as goal

pub returns : goal.returns
returns c =
    both (both (both (both c.put_named.ensures c.put_named-2.ensures) c.put_named-3.ensures) c.put_named-4.ensures) c.put_named-5.ensures
