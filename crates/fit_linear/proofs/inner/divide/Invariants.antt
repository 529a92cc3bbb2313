-- `fit_linear::inner::divide` meets its contract: each float is divided. Invariant: those so far hold their quotients, the others are as they were
-- (`Rewriting`).
use Rattle.std.specs.Float.{binary64}
use Rattle.std.specs.Float.Ieee.{div}
use Rattle.fit_linear.specs.Inner.{float_at}
use Rattle.fit_linear.proofs.Parts.{Rewriting}
use Rattle.fit_linear.proofs.inner.divide.Given as goal

abbrev pub invariant-loop-x : goal.invariant-loop-x
invariant-loop-x l = Rewriting (λ k. div binary64 (float_at l.fn.row k) l.by) l.fn.row l.x-index l.row
