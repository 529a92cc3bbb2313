-- `fit_system::FitTables::solve_system` meets its contract: fill, eliminate, sum the series, take the share. No loop. The ways out: elimination finds no pivot
-- (`solved-singular`), the series does not converge (`solved-not-summed`), and solved (`solved-summed`). Each law takes what the calls ensure, in their order,
-- for a least count for which the marks are the marks of the cells.
use Rattle.fit_marking.specs.Tables.{cells_in}
use Rattle.fit_system.specs.Rows.{total_of}
use Rattle.fit_system.proofs.Solving.{solved-singular, solved-not-summed, solved-summed}
use Rattle.fit_system.proofs.FitTables.solve_system.Goals as goal

pub returns-in_default : goal.returns-in_default
returns-in_default c least m =
    let a = c.args in
    let C = cells_in a.self.now.pairs least in
    solved-singular a.rounds.series a.rounds.fallback C (total_of a.self.now.move_half_ticks.now) _ _ _ (c.fill_system.ensures least m)
    (rw c.in_default.is at c.gauss_jordan.ensures)

pub returns-in_default-sum_series : goal.returns-in_default-sum_series
returns-in_default-sum_series c least m =
    let a = c.args in
    let C = cells_in a.self.now.pairs least in
    solved-not-summed a.rounds.series a.rounds.fallback C (total_of a.self.now.move_half_ticks.now) _ _ _ (c.fill_system.ensures least m)
    (rw c.in-Ok.is at c.gauss_jordan.ensures) _ _ c.sum_series.ensures c.in_default-sum_series.is

pub returns : goal.returns
returns c least m =
    let a = c.args in
    let C = cells_in a.self.now.pairs least in
    solved-summed a.rounds.series a.rounds.fallback C (total_of a.self.now.move_half_ticks.now) _ _ _ (c.fill_system.ensures least m)
    (rw c.in-Ok.is at c.gauss_jordan.ensures) _ _ c.sum_series.ensures _
    c.fallback_within_moves.ensures c.in-Ok-sum_series.is
