-- `fit_series::inner::LentScratch::add_term` meets its contract: next = B × term, next copied to term and added to sum, and the largest size of term. No
-- loop: the callees' contracts in a row are the law `term-added`. `add_column` asks that no place is written before it is read: the part that is read is the
-- part that is written.
use Rattle.std.proofs.Common.{◌≡◌, ◌+◌, ◌-◌, arith}
use Rattle.fit_linear.proofs.Parts.{copied-part}
use Rattle.fit_series.proofs.Rounds.{term-added}
use Rattle.fit_series.proofs.inner.LentScratch.add_term.Goals as goal

pub returns : goal.returns
returns c =
    let n = c.args.self.now.n in
    let m = c.multiply.ensures in
    let next : c.next-next.result + n - c.next-next.result ≡ n = omega arith in
    let copy = rw next at c.copy_within.ensures.by_index in
    record {
      states = m.states;
      slice = m.slice;
      floats =
          term-added (rw (c.term-term.ensures) at m.floats)
          (rw (← c.term-term.ensures, ← c.next-next.ensures) (copied-part c.next-next.result c.term-term.result n copy.0 copy.1 copy.2))
          (rw (c.sum-sum.ensures, c.next-next.ensures) at c.add_column.ensures)
          (rw m.states at c.largest_term.ensures);
    }
