use Rattle.std.proofs.Common.{◌≡◌, ◌*◌, ◌+◌, ◌-◌, arith}
use Rattle.basics.proofs.Tests.{row_in}
use Rattle.fit_series.specs.Inner.{width}
use Rattle.fit_series.proofs.Products.{product-more}
use Rattle.fit_series.proofs.inner.LentScratch.multiply_rows.Goals as goal

pub dots-sums-requires : goal.dots-sums-requires
dots-sums-requires g c =
    let a = c.args in
    let s = a.self.now in
    let r = a.first + c.loop-b.b * g.row.R in
    let block = row_in c.loop-b.b a.count g.row.R c.loop-b-test.true in
    let last = row_in (r + (g.row.R - 1)) s.n (width s.n) (omega arith) in
    (omega arith, (c.requires.0, c.requires.1, rw c.width-w.ensures (omega (arith, last, block, s.fits.enough)), omega arith))

pub loop-b-preserved : goal.loop-b-preserved
loop-b-preserved g c = λ l p.
    let a = c.args in
    let r = a.first + c.loop-b.b * g.row.R in
    let block = row_in c.loop-b.b a.count g.row.R c.loop-b-test.true in
    let more : a.first + (c.loop-b.b + 1) * g.row.R ≡ r + g.row.R = omega arith in
    let all : c.loop-q.q ≡ g.row.R = omega arith in
    rw more
    (product-more a.self.now.n a.v (omega arith) (c.loop-b.invariant l p) (omega arith) (rw c.width-w.ensures at c.dots-sums.ensures)
    (rw (all, c.next-next.ensures) at c.loop-q.invariant))
