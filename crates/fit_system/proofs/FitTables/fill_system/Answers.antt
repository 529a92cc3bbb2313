use mathlib.Core.Path.{◌≡◌, ◌∙◌}
use Rattle.std.proofs.lemmas.Iterator.{YieldsList-from_slice, YieldsList-from_take}
use Rattle.std.proofs.lemmas.Iterator.Consumers.{YieldsList-turn, YieldsList-end, YieldsList-from_enumerate}
use Rattle.std.proofs.lemmas.List.{length_push}
use Rattle.fit_marking.specs.Marks.{mark_of}
use Rattle.fit_marking.specs.Tables.{cells_in}
use Rattle.fit_system.proofs.Filling.{rows_more, mark-given, marks-given}
use Rattle.fit_system.proofs.FitTables.fill_system.Goals as goal

pub loop-x-preserved : goal.loop-x-preserved
loop-x-preserved c least m =
    let chain = YieldsList-from_take c.args.self.now.pairs.states (YieldsList-from_enumerate (YieldsList-from_slice c.args.marks.now cc) cc) cc in
    let t = YieldsList-turn chain c.loop-x.yielded _ c.loop-x.yielded_by _ _ (c.in-Some.x, c.in-Some.mark) c.in-Some.is c.next.ensures.steps in
    let g = mark-given t in
    let marked : c.in-Some.mark.now ≡ mark_of (cells_in c.args.self.now.pairs least) c.in-Some.x = rw g.number-is (g.mark-is ∙ m.each _ g.below) in
    let row = rw g.number-is at (c.fill_row.ensures least marked) in
    let more = length_push c.loop-x.yielded (c.in-Some.x, c.in-Some.mark) in
    rw more (rows_more _ _ _ _ _ _ (c.loop-x.invariant least m) row)

pub returns : goal.returns
returns c least m =
    let chain = YieldsList-from_take c.args.self.now.pairs.states (YieldsList-from_enumerate (YieldsList-from_slice c.args.marks.now cc) cc) cc in
    let t = YieldsList-end chain c.loop-x.yielded _ c.loop-x.yielded_by _ _ c.in-None.is c.next.ensures.steps in
    let all = t.1 ∙ marks-given _ _ m.enough in
    rw all at (c.loop-x.invariant least m)
