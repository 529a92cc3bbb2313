use native.Mathlib.Omega.{arith}
use Rattle.fit.proofs.Judging.{writing_more, writing-all}
use Rattle.fit.proofs.inner.SolvedInput.write_estimates.Goals as goal

pub loop-i-preserved : goal.loop-i-preserved
loop-i-preserved c = writing_more c.loop-i.invariant c.state_estimate-e.ensures c.write_row.ensures

pub returns : goal.returns
returns c = writing-all c.loop-i.invariant (omega arith) c.requires
