-- `fit_linear::inner::subtract` meets its contract: a row less `factor` times the row `top`. Invariant: the first k floats hold their differences, the others
-- are as they were (`Rewriting`).
use Rattle.std.specs.Float.{binary64}
use Rattle.std.specs.Float.Ieee.{sub, mul}
use Rattle.fit_linear.specs.Inner.{float_at}
use Rattle.fit_linear.proofs.Parts.{Rewriting}
use Rattle.fit_linear.proofs.inner.subtract.Given as goal

abbrev pub invariant-loop-k : goal.invariant-loop-k
invariant-loop-k l =
    Rewriting (λ k. sub binary64 (float_at l.fn.row k) (mul binary64 l.factor (float_at l.top k))) l.fn.row l.k l.row
