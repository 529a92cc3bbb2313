-- `fit_series::inner::clamp_all` meets its contract: each float is clamped. Invariant: those so far are clamped, the others are as they were (`Rewriting`).
use Rattle.floats.specs.Floats.{clamp}
use Rattle.fit_linear.specs.Inner.{float_at}
use Rattle.fit_linear.proofs.Parts.{Rewriting}
use Rattle.fit_series.proofs.inner.clamp_all.Given as goal

abbrev pub invariant-loop-x : goal.invariant-loop-x
invariant-loop-x l = Rewriting (λ k. clamp (float_at l.fn.v k)) l.fn.v l.x-index l.v
