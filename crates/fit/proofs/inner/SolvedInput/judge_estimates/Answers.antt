use mathlib.Core.Path.{ap}
use mathlib.Core.Bool.{not}
use native.Mathlib.Omega.{arith}
use Rattle.fit.proofs.Judging.{seen_none, seen_more, judged-no, judged-none, judged-fine}
use Rattle.fit.proofs.inner.SolvedInput.judge_estimates.Goals as goal

pub returns-then-not-is_representable : goal.returns-then-not-is_representable
returns-then-not-is_representable c =
    judged-no c.loop-i.invariant c.state_estimate-e.ensures c.is_representable.ensures _
    (omega arith) (ap not c.if-not-is_representable.true)

pub loop-i-preserved : goal.loop-i-preserved
loop-i-preserved c =
    rw c.from.ensures
    (seen_more c.loop-i.invariant c.state_estimate-e.ensures
    c.is_representable.ensures (ap not c.if-not-is_representable.false))

pub returns-then-not-found : goal.returns-then-not-found
returns-then-not-found c = judged-none c.loop-i.invariant (omega arith) (ap not c.if-not-found.true)

pub returns : goal.returns
returns c = judged-fine c.loop-i.invariant (omega arith) (ap not c.if-not-found.false)

pub loop-i-init : goal.loop-i-init
loop-i-init c = seen_none
