-- `fit_series::inner::LentScratch::fallback_within` meets its contract: F is copied to share, so many rounds are made, and share is clamped. No loop: the
-- three callees' contracts in a row are the law `share-started`. The column F can be read while it is copied, for share lies behind the rows; after it share
-- holds F, which `add_shares` asks.
use Rattle.std.proofs.Common.{◌≡◌, ◌+◌, ◌-◌, ◌∙◌, arith}
use Rattle.floats.specs.Floats.{clamp}
use Rattle.fit_linear.proofs.Parts.{mapped-part}
use Rattle.fit_series.proofs.Rounds.{share-started}
use Rattle.fit_series.proofs.inner.LentScratch.fallback_within.Goals as goal

pub returns : goal.returns
returns c =
    let m = c.args.self.now.n in
    let copied = c.copy_column.ensures in
    let added = c.add_shares.ensures in
    let states = added.states ∙ copied.states in
    let enough = rw states at c.add_shares.new.self.fits.enough in
    let n : c.share-share.result + m - c.share-share.result ≡ m = omega arith in
    record {
      states = states;
      slice = added.slice ∙ copied.slice;
      floats =
          share-started (rw c.share-share.ensures at copied.floats)
          (rw copied.states at added.floats)
          (rw (n, ← c.share-share.ensures)
          (mapped-part clamp c.share-share.result m c.add_shares.new.self.floats.now c.clamp_all.new.v (omega (arith, enough)) (omega arith)
          c.clamp_all.ensures));
    }
