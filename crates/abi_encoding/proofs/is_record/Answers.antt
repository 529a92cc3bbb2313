-- `abi_encoding::is_record` meets its contract: a record has ten words (`no_record`), and what the two patterns say of ten words the check compares with
-- those of the record that they hold.
use mathlib.Core.Path.{sym}
use Rattle.abi_encoding.proofs.Laws.{no_record}
use Rattle.abi_encoding.proofs.is_record.Goals as goal

pub returns-then-w-ne-RECORD_WORDS : goal.returns-then-w-ne-RECORD_WORDS
returns-then-w-ne-RECORD_WORDS c = sym (no_record c.args.w.now c.if-w-ne-RECORD_WORDS.true)
