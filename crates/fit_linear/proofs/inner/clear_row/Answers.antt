-- `fit_linear::inner::clear_row` meets its contract: column c of the row is cleared by the row `top`. No loop. Where the factor equals zero the row stays as it
-- is, and that is the cleared row (`cleared-skipped`); else the row less the factor times `top` is (`cleared-done`).
use Rattle.std.proofs.Common.{sym, ◌∙◌}
use Rattle.fit_linear.proofs.Rows.{cleared-skipped, cleared-done}
use Rattle.fit_linear.proofs.inner.clear_row.Goals as goal

pub returns-then-factor : goal.returns-then-factor
returns-then-factor c = λ k h. sym (cleared-skipped _ _ _ k c.if-factor.true)

pub returns : goal.returns
returns c = λ k h. c.subtract.ensures k h ∙ sym (cleared-done _ _ _ k c.if-factor.false)
