-- `fit::inner::MarkedInput::fit_marked` meets its contract: solve the system, judge the estimates, write them. No loop. The ways out: the solution is refused
-- (`ends-unsolved`), the estimates are (`ends-refused`), or the table is written (`ends-fitted`). Each law takes what the calls ensure, one state being used.
use Rattle.std.proofs.lemmas.Result.{err_from_is_err_and}
use Rattle.fit.specs.InnerInput.{input_in}
use Rattle.fit.proofs.Ends.{ends-unsolved, ends-refused, ends-fitted}
use Rattle.fit.proofs.inner.MarkedInput.fit_marked.Goals as goal

pub returns-in_err-solve_system : goal.returns-in_err-solve_system
returns-in_err-solve_system c u =
    let a = c.args in
    let m = a.self.now in
    let p = err_from_is_err_and c.from_residual.result c.from_residual.ensures.1 in
    let is = c.in_err-solve_system.was in
    rw (p.1, p.2, ← is)
    (ends-unsolved a.rounds.series a.rounds.fallback (input_in m.input) a.model.now u (c.solve_system.ensures m.input.least m.marked).answers is)

pub returns-in_err-judge_estimates : goal.returns-in_err-judge_estimates
returns-in_err-judge_estimates c u =
    let a = c.args in
    let m = a.self.now in
    let e = c.from_residual-in_err-judge_estimates in
    let p = err_from_is_err_and e.result e.ensures.1 in
    let s = rw c.in_ok-solve_system.was at (c.solve_system.ensures m.input.least m.marked) in
    let is = c.in_err-judge_estimates.was in
    rw (p.1, p.2, ← is)
    (ends-refused a.rounds.series a.rounds.fallback (input_in m.input) a.model.now u m.input.usable.mirrors-below _ s c.judge_estimates.ensures is)

pub returns : goal.returns
returns c u =
    let a = c.args in
    let m = a.self.now in
    let s = rw c.in_ok-solve_system.was at (c.solve_system.ensures m.input.least m.marked) in
    ends-fitted a.rounds.series a.rounds.fallback (input_in m.input) a.model.now u m.input.usable.mirrors-below _ s
    c.judge_estimates.ensures c.in_ok-judge_estimates.was
    c.write_estimates.ensures
