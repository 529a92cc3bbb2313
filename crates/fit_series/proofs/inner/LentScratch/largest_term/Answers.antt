-- `fit_series::inner::LentScratch::largest_term` meets its contract: the largest size of the floats of the term is that of the part of scratch where the term
-- stands (`largest-part`). No loop.
use Rattle.std.proofs.Common.{◌∙◌, arith}
use Rattle.fit_series.proofs.Rounds.{largest-part}
use Rattle.fit_series.proofs.inner.LentScratch.largest_term.Goals as goal

pub returns : goal.returns
returns c =
    let s = c.args.self.now in
    rw (← c.term-term.ensures) (c.largest_of.ensures ∙ largest-part c.term-term.result s.n s.floats.now (omega (arith, s.fits.enough)))
