-- `program_report::evening_text` meets its contract: an output with too little room stays as it is and the text for it is empty (`text-short`); one with enough
-- room gets the text that `put_text` writes, which is at most as long as the room (`text-long`). No loop.
use Rattle.std.proofs.Common.{refl, rules, arith}
use Rattle.program_report.proofs.Texts.{text-short, text-long}
use Rattle.program_report.proofs.evening_text.Goals as goal

pub returns-then-out-lt-MOST_BYTES : goal.returns-then-out-lt-MOST_BYTES
returns-then-out-lt-MOST_BYTES c = text-short c.args.out.now c.args.input.now (omega arith)

pub returns : goal.returns
returns c = text-long c.args.input.now refl (omega arith) c.put_text.ensures (search rules)
