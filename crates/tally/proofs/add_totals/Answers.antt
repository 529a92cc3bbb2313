-- `tally::add_totals` meets its contract: the change is added at a and then taken from b. With both done each total is within its limit and the change is
-- small,
-- so each total was far from the ends of its word before its own addition (`totals-first`, `totals-second`), and neither wraps (`sum_is`, `difference_is`).
use Rattle.std.proofs.Common.{get_or, pos, arith}
use Rattle.tally.proofs.Sums.{sum_is, difference_fits, difference_is}
use Rattle.tally.proofs.Touched.{totals-first, totals-second}
use Rattle.tally.specs.Totals.{add_at}
use Rattle.tally.proofs.add_totals.Goals as goal

pub overflow_sub-t : goal.overflow_sub-t
overflow_sub-t c =
    let a = c.args in
    let t = a.t.now in
    let p = c.requires in
    let first = sum_is (get_or t a.a (pos 0)) a.d (totals-first t a.d (omega arith) a.a a.b p.3 p.0) (omega arith) in
    rw first (difference_fits (get_or (add_at t a.a a.d) a.b (pos 0)) a.d (totals-second t a.d (omega arith) a.a a.b p.3 p.1) (omega arith))

pub returns : goal.returns
returns c =
    let a = c.args in
    let t = a.t.now in
    let p = c.requires in
    let first = sum_is (get_or t a.a (pos 0)) a.d (totals-first t a.d (omega arith) a.a a.b p.3 p.0) (omega arith) in
    rw (first, difference_is (get_or (add_at t a.a a.d) a.b (pos 0)) a.d (totals-second t a.d (omega arith) a.a a.b p.3 p.1) (omega arith))
