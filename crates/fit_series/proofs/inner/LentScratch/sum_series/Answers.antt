-- `fit_series::inner::LentScratch::sum_series` meets its contract: G1 is copied to sum and to term, and the rounds run from there. No loop. Both parts lie
-- behind the rows, so the column can be read while it is copied, and the rows keep B: the run from there is the series of the rows as they came
-- (`sum-started`).
use Rattle.std.proofs.Common.{◌∙◌}
use Rattle.fit_series.proofs.Rounds.{sum-started}
use Rattle.fit_series.proofs.inner.LentScratch.sum_series.Goals as goal

pub returns : goal.returns
returns c =
    let sum = c.copy_column.ensures in
    let term = c.copy_column-2.ensures in
    let run = c.add_terms.ensures in
    let states = term.states ∙ sum.states in
    record {
      states = run.states ∙ states;
      slice = run.slice ∙ term.slice ∙ sum.slice;
      floats = sum-started (rw c.sum.ensures at sum.floats) (rw (c.term.ensures, sum.states) at term.floats) (rw states at run.floats);
    }
