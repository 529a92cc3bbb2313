use Rattle.image_words.proofs.Tables.{put-to-first, put-to-next, put-to-last}
use Rattle.image_words.proofs.put_table.Goals as goal

pub loop-i-init : goal.loop-i-init
loop-i-init g c = put-to-first g.T.Word.word c.args.out.now c.args.at c.args.t.now

pub loop-i-preserved : goal.loop-i-preserved
loop-i-preserved g c =
    let a = c.args in
    let l = c.loop-i in
    put-to-next g.T.Word.word a.out.now a.at a.t.now l.out l.i c.index-t-i.result l.invariant c.loop-i-test.true
    c.index-t-i.is c.to_word.ensures c.put_word.ensures

pub returns : goal.returns
returns g c =
    let a = c.args in
    put-to-last g.T.Word.word a.out.now a.at a.t.now c.loop-i.out c.loop-i.i c.loop-i.invariant c.loop-i-test.false
