-- `count_check::check_tables` meets its contract: the check by a table of mirrors is the check by `mirror_of`, since both agree on the states of the
-- configuration (`check-by`). The table holds 256 numbers, at least one for each state, and each is below the number of states (`mirrors-known`).
use native.Mathlib.Omega.{arith}
use Rattle.config.specs.Configuration.{states}
use Rattle.quotes.specs.States.{mirror_of}
use Rattle.calibrator.specs.Record.{counts_of}
use Rattle.count_check.proofs.Answers.{check-by, mirrors-known}
use Rattle.count_check.proofs.check_tables.Goals as goal

pub invariant_of-tables-clause-has_mirrors : goal.invariant_of-tables-clause-has_mirrors
invariant_of-tables-clause-has_mirrors g c =
    let m = c.mirrors_of-mirrors in
    rw c.state_count.ensures (mirrors-known c.args.config m.result c.requires.0 (omega (arith, m.type_inv)) m.ensures)

pub returns : goal.returns
returns g c =
    let a = c.args in
    let k = counts_of a.counters (g.S.Counted.held a.source.now) in
    check-by c.state_count.result (states a.config) c.mirrors_of-mirrors.result (mirror_of a.config.imbalance_buckets) k
    c.check_counts.result c.state_count.ensures c.mirrors_of-mirrors.ensures c.check_counts.ensures
