-- `fit_marking::PairTables::observations_of` meets its contract: the sum of row x of `stay` and of row x of `moved`, which is the definition. The sums ask
-- that the rows
-- lie in the tables, and the addition stays within its type since all cells of both tables together are at most 2^53 (`row-in-tables`). No loop.
use native.Mathlib.Omega.{arith}
use Rattle.fit_marking.specs.Marks.{observations}
use Rattle.fit_marking.proofs.Rows.{row-in-tables}
use Rattle.fit_marking.proofs.PairTables.observations_of.Goals as goal

pub row_sum-requires : goal.row_sum-requires
row_sum-requires c =
    let r = row-in-tables c.args.self.now.fitting c.requires in
    (r.stay-in, omega arith)

pub row_sum-requires-2 : goal.row_sum-requires-2
row_sum-requires-2 c =
    let r = row-in-tables c.args.self.now.fitting c.requires in
    (r.moved_in, omega arith)

pub overflow_add-result : goal.overflow_add-result
overflow_add-result c =
    let r = row-in-tables c.args.self.now.fitting c.requires in
    omega arith

pub returns : goal.returns
unfolding observations
returns c = omega arith
