-- `fit_series::inner::LentScratch::add_shares` meets its contract: rounds of the share, from F. Invariant: share is what `done` rounds make, next is the last
-- product where a round was made, all else is as it was (`Shared`). The rows keep B and F, so one call more is one round more (`shares-more`); at the
-- start share holds F, as the contract requires (`shares-none`). At the end done is rounds.
use Rattle.fit_linear.specs.Arithmetic.{rounded}
use Rattle.fit_series.specs.Series.{share_after}
use Rattle.fit_series.specs.Inner.{Shared, last_product, solved_b, solved_f}
use Rattle.fit_series.specs.InnerLent.{Changed}
use Rattle.fit_series.proofs.inner.LentScratch.add_shares.Given as goal

abbrev pub invariant-loop-done : goal.invariant-loop-done
invariant-loop-done l =
    Changed
    (λ n s m. let B = solved_b n s in let F = solved_f n s in Shared n l.done (share_after rounded n B F l.done) (last_product n B F l.done) s m)
    l.fn.self l.self
