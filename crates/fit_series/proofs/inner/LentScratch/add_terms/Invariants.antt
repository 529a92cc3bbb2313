-- `fit_series::inner::LentScratch::add_terms` meets its contract: terms are added on. Invariant: from what stands in sum and term, the rest of the run with the
-- rounds that are left is the whole run's (`Running`). The ways out: an infinite largest (`run-infinite`), a largest below 1e-12 (`run-tiny`), no rounds left
-- (`run_out`). Else a round more has been made (`run_more`).
use Rattle.std.proofs.Common.{◌-◌}
use Rattle.fit_series.specs.InnerLent.{Changed}
use Rattle.fit_series.proofs.Rounds.{Running}
use Rattle.fit_series.proofs.inner.LentScratch.add_terms.Given as goal

abbrev pub invariant-loop-made : goal.invariant-loop-made
invariant-loop-made l = Changed (λ n s m. Running n l.rounds (l.rounds - l.made) s m) l.fn.self l.self
