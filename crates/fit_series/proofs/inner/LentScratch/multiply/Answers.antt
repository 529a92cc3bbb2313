-- `fit_series::inner::LentScratch::multiply` meets its contract: the rows of the fours and the rest are all n rows, and each call answers those that it is
-- given (`multiply_rows`), the second on what the first wrote. No loop.
use Rattle.std.proofs.Common.{◌≡◌, ◌+◌, ◌*◌, ◌/◌, ◌%◌, arith}
use Rattle.fit_linear.proofs.Parts.{filled_none}
use Rattle.fit_series.proofs.Lent.{changed-then}
use Rattle.fit_series.proofs.inner.LentScratch.multiply.Goals as goal

pub returns : goal.returns
returns c =
    let l = c.args.self.now.floats.now in
    let n = c.args.self.now.n in
    let all : n / 4 * 4 + n % 4 * 1 ≡ n = omega arith in
    let none : 0 + n / 4 * 4 ≡ n / 4 * 4 = omega arith in
    let fours = c.multiply_rows.ensures in
    changed-then fours c.multiply_rows-2.ensures (λ p q. rw (fours.states, all) at (q l (rw none at (p l filled_none))))
