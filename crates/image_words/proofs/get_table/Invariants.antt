-- `image_words::get_table` meets its contract: a table filled with the numbers of words that are read. Invariant `ReadTo`: the first i numbers of the table are
-- read. At first none is; one more keeps the invariant (`read-to-next`), and with i at the length all are read (`read-to-last`).
use Rattle.std.proofs.Common.{length}
use Rattle.image_words.proofs.Tables.{ReadTo}
use Rattle.image_words.proofs.get_table.Given as goal

abbrev pub invariant-loop-i : goal.invariant-loop-i
invariant-loop-i g l = ReadTo g.T.Word.number l.bytes l.at (length l.fn.t) l.t l.i
