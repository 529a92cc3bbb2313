-- `count_check::word_in` meets its contract: word i of bytes is read at 8i (`word-in`), inside them where it is a whole one (`word-inside`).
use Rattle.std.proofs.Common.{rules}
use Rattle.count_check.proofs.Readings.{word-inside, word-in}
use Rattle.count_check.proofs.word_in.Goals as goal

pub overflow_mul-i : goal.overflow_mul-i
overflow_mul-i c = let h = word-inside c.args.bytes.now c.args.i c.requires in search rules

pub get_word-requires : goal.get_word-requires
get_word-requires c = word-inside _ _ c.requires

pub returns : goal.returns
returns c = word-in _ _ _ c.requires c.get_word.ensures
