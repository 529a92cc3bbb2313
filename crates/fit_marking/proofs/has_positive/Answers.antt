-- `fit_marking::has_positive` meets its contract: `any` over row x, whose cells are those of the definition (`row-cells`, `some-tab`).
use Rattle.std.proofs.Common.{rules, ◌∙◌, ap}
use borrow.Author.Tests.{tests}
use Rattle.std.specs.List.{list_any}
use Rattle.std.proofs.lemmas.Iterator.{YieldsList-from_slice}
use Rattle.std.proofs.lemmas.Iterator.Search.{any_from_yields_List}
use Rattle.basics.specs.Lists.{cell_at}
use Rattle.fit_marking.specs.Inner.{row_of, is_positive}
use Rattle.fit_marking.proofs.Rows.{row-cells, some-tab}
use Rattle.fit_marking.proofs.has_positive.Goals as goal

pub returns : goal.returns
returns c =
    let a = c.args in
    let r = row_of a.n a.table.now a.x in
    any_from_yields_List is_positive _ _ _ c.any.ensures.ran (YieldsList-from_slice r cc) (λ x b q k. search (rules, tests))
    ∙ ap (list_any is_positive) (row-cells a.n a.table.now a.x c.requires)
    ∙ some-tab is_positive a.n (cell_at a.n a.table.now a.x)
