use Rattle.std.proofs.Common.{length}
use Rattle.image_words.proofs.Tables.{read-to-next, read-to-last}
use Rattle.image_words.proofs.get_table.Goals as goal

pub loop-i-preserved : goal.loop-i-preserved
loop-i-preserved g c =
    let a = c.args in
    let l = c.loop-i in
    read-to-next g.T.Word.number a.bytes.now a.at (length a.t.now) l.t l.i l.invariant c.loop-i-test.true l.auto.t
    c.get_word.ensures c.from_word.ensures

pub returns : goal.returns
returns g c =
    let a = c.args in
    let l = c.loop-i in
    read-to-last g.T.Word.number a.bytes.now a.at (length a.t.now) l.t l.i l.invariant c.loop-i-test.false l.auto.t
