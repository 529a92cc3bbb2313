-- `calibrator::inner::next_quote` meets its contract: what `neighbours` finds decides, a skip goes to `skip_pair` and a pair to `count_pair`. Each way out is
-- what the callee ensures, with `neighbours_of` of the two quotes in place of what was found (`found-made`). No loop. `count_pair` asks for states and mids
-- within bounds, which a pair that two accepted quotes make has (`counted-known`).
use mathlib.Core.Path.{sym, ◌∙◌}
use Rattle.tally.specs.Lent.{tables_of}
use Rattle.calibrator.specs.Record.{memory_with}
use Rattle.calibrator.proofs.Ways.{counted-known, found-made}
use Rattle.calibrator.proofs.inner.next_quote.Goals as goal

pub count_pair-requires : goal.count_pair-requires
count_pair-requires c =
    let a = c.args in
    let p = c.requires in
    (p.0, counted-known a.config a.last a.quote p.0 p.1 p.2 _ (sym c.neighbours-found.ensures ∙ c.in-Ok.is), p.4)

pub returns-in-Err-clause-left : goal.returns-in-Err-clause-left
returns-in-Err-clause-left c =
    let a = c.args in
    c.skip_pair.ensures _ ∙ found-made a.config (memory_with a.rec (tables_of a.tables.now)) a.last a.quote _ _ c.neighbours-found.ensures c.in-Err.is
