-- `fit_marking::PairTables::first_mark` meets its contract: three ways out, by the state's own rows. Fewer observations than the least gives 1 (`first-rare`);
-- else a
-- positive moved cell gives 0 (`first-path`); else 2 (`first-none`). `has_positive` asks that row x lies in `moved` (`row-in-tables`). No loop.
use mathlib.Core.Path.{sym, ◌∙◌}
use native.Mathlib.Omega.{arith}
use Rattle.fit_marking.proofs.Rows.{first-rare, first-path, first-none}
use Rattle.fit_marking.proofs.PairTables.first_mark.Goals as goal

pub returns-then-observations_of-least : goal.returns-then-observations_of-least
returns-then-observations_of-least c =
    let a = c.args in
    first-rare a.self.now.states a.least a.self.now.stay.now a.self.now.moved.now a.x (omega arith)

pub returns-then-has_positive : goal.returns-then-has_positive
returns-then-has_positive c =
    let a = c.args in
    first-path a.self.now.states a.least a.self.now.stay.now a.self.now.moved.now a.x (omega arith) (sym c.has_positive.ensures ∙ c.if-has_positive.true)

pub returns : goal.returns
returns c =
    let a = c.args in
    first-none a.self.now.states a.least a.self.now.stay.now a.self.now.moved.now a.x (omega arith) (sym c.has_positive.ensures ∙ c.if-has_positive.false)
