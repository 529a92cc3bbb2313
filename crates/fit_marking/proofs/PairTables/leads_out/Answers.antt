-- `fit_marking::PairTables::leads_out` meets its contract: `any` over row x and the marks together, whose pairs are those of the definition (`row-cells`,
-- `zip-tab`,
-- `some-tab`).
use Rattle.std.proofs.Common.{rules, ◌∙◌, ap}
use borrow.Author.Tests.{tests}
use Rattle.std.specs.List.{list_any, zip}
use Rattle.std.proofs.lemmas.Iterator.{YieldsList-from_slice, YieldsList-from_zip}
use Rattle.std.proofs.lemmas.Iterator.Search.{any_from_yields_List}
use Rattle.basics.specs.Lists.{cell_at}
use Rattle.model.specs.declared.StateStatus.TheVariants.{Calibrated}
use Rattle.fit_marking.specs.Marks.{mark_at}
use Rattle.fit_marking.specs.Inner.{row_of, leads}
use Rattle.fit_marking.proofs.Rows.{row-in-tables, row-cells, some-tab, zip-tab}
use Rattle.fit_marking.proofs.PairTables.leads_out.Goals as goal

pub returns : goal.returns
returns c =
    let a = c.args in
    let r = row_of a.self.now.states a.self.now.stay.now a.x in
    any_from_yields_List {s = c.zip.result} leads c.any.new.self _ _ c.any.ensures.ran
    (YieldsList-from_zip (YieldsList-from_slice r cc) (YieldsList-from_slice a.marks.now cc))
    (λ x b q k. search (rules, tests))
    ∙ ap (λ r. list_any leads (zip r a.marks.now)) (row-cells a.self.now.states a.self.now.stay.now a.x (row-in-tables a.self.now.fitting c.requires.0).stay-in)
    ∙ ap (list_any leads) (zip-tab a.self.now.states (cell_at a.self.now.states a.self.now.stay.now a.x) a.marks.now Calibrated c.requires.1)
    ∙ some-tab leads a.self.now.states (λ j. (cell_at a.self.now.states a.self.now.stay.now a.x j, mark_at a.marks.now j))
