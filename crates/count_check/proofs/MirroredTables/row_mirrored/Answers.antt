-- `count_check::MirroredTables::row_mirrored` meets its contract: `all` over the n numbers below n is the walk over the row (`all-range`).
use mathlib.Core.Path.{refl, ◌∙◌}
use native.Mathlib.Omega.{arith}
use lib.ListN.{get_or}
use borrow.Author.Tests.{tests}
use Rattle.std.proofs.Common.{rules}
use Rattle.std.proofs.lemmas.Iterator.{YieldsList-from_range}
use Rattle.std.proofs.lemmas.Iterator.Search.{all_from_yields_List}
use Rattle.count_check.specs.Mirrors.{cell_mirrored}
use Rattle.count_check.proofs.Walks.{all-range}
use Rattle.count_check.proofs.MirroredTables.row_mirrored.Goals as goal

pub returns : goal.returns
returns g c =
    let t = c.args.self.now in
    let same = cell_mirrored t.n (λ k. get_or t.mirrors.now k 0) (g.S.Counted.held t.source.now) c.args.i in
    all_from_yields_List same _ _ _ c.all.ensures.ran (YieldsList-from_range 0 t.n t.n refl (omega arith)) (λ x b q k. search (rules, tests))
    ∙ all-range same 0 t.n
