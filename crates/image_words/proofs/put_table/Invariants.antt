-- `image_words::put_table` meets its contract: the words of a table one after another. Invariant `PutTo`: the words from i on, stored in the output, make the
-- whole table stored. It holds at first (`put-to-first`), one word more keeps it (`put-to-next`), and with no word left the output is the result
-- (`put-to-last`).
use Rattle.image_words.proofs.Tables.{PutTo}
use Rattle.image_words.proofs.put_table.Given as goal

abbrev pub invariant-loop-i : goal.invariant-loop-i
invariant-loop-i g l = PutTo g.T.Word.word l.fn.out l.at l.t l.out l.i
