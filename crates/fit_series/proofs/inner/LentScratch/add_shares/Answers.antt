use Rattle.fit_series.proofs.Lent.{changed-none, changed-then}
use Rattle.fit_series.proofs.Rounds.{shares-none, shares-more}
use Rattle.fit_series.proofs.inner.LentScratch.add_shares.Goals as goal

pub loop-done-init : goal.loop-done-init
loop-done-init c = changed-none (shares-none c.requires)

pub loop-done-preserved : goal.loop-done-preserved
loop-done-preserved c = changed-then c.loop-done.invariant c.next_share.ensures shares-more
