-- `fit_series::inner::LentScratch::next_share` meets its contract: B × share into next, and F plus it into share. No loop: the contracts of the two callees in
-- a row. Both parts lie behind the rows, so the column F can be read while share is written (`column-read`).
use Rattle.std.proofs.Common.{arith}
use Rattle.fit_series.proofs.Rounds.{column-read}
use Rattle.fit_series.proofs.inner.LentScratch.next_share.Goals as goal

pub add_column-requires : goal.add_column-requires
add_column-requires c =
    let enough = rw c.multiply.ensures.states at c.multiply.new.self.fits.enough in
    rw (c.width-w.ensures, c.share-share.ensures, c.next-next.ensures)
    (column-read (omega arith) (omega arith) (omega (arith, enough)), omega arith, omega (arith, enough))
