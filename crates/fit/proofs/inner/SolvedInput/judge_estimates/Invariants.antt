-- `fit::inner::SolvedInput::judge_estimates` meets its contract: it refuses at the first estimate that cannot be represented, and at the end where none is
-- Calibrated. Invariant (`Seen`): the estimates below i can be represented, and `found` says whether one of them is Calibrated. At the way out i is n. The ways
-- out: `judged-no`, `judged-none` and `judged-fine`.
use Rattle.fit.specs.InnerInput.{estimates_in}
use Rattle.fit.proofs.Judging.{Seen}
use Rattle.fit.proofs.inner.SolvedInput.judge_estimates.Given as goal

abbrev pub invariant-loop-i : goal.invariant-loop-i
invariant-loop-i l = Seen (estimates_in l.self) l.i l.found
