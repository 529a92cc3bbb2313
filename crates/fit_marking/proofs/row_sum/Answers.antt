-- `fit_marking::row_sum` meets its contract: `sum` over row x, whose sum is that of the definition (`row-sum`). It fits, since the contract requires it to be
-- at
-- most 2^53.
use Rattle.std.proofs.Common.{◌∙◌, arith}
use Rattle.std.proofs.lemmas.Iterator.{YieldsList-from_slice}
use Rattle.std.proofs.lemmas.Iterator.Consumers.{fits_from_yields_list, sum_from_yields_List}
use Rattle.fit_marking.specs.Inner.{row_of}
use Rattle.fit_marking.proofs.Rows.{row-sum}
use Rattle.fit_marking.proofs.row_sum.Goals as goal

pub sum-requires-clause-fits : goal.sum-requires-clause-fits
sum-requires-clause-fits c =
    let a = c.args in
    fits_from_yields_list _ _ (YieldsList-from_slice (row_of a.n a.table.now a.x) cc) (omega (arith, row-sum a.n a.table.now a.x c.requires.0))

pub returns : goal.returns
returns c =
    let a = c.args in
    sum_from_yields_List _ _ c.sum.ensures.ran (YieldsList-from_slice (row_of a.n a.table.now a.x) cc) ∙ row-sum a.n a.table.now a.x c.requires.0
