-- `calibrator::inner::observe` meets its contract: what the tables and the configuration, then the pair of quotes are refused by ends it; a first quote goes to
-- `first_quote`, another to `next_quote`. No loop. What `next_quote` asks of the configuration is `tables-known`, from `check_table_lengths`'s word; of the two
-- quotes `pair-known`, from `judge_pair`'s.
use mathlib.Core.Path.{sym, ◌∙◌}
use Rattle.calibrator.proofs.Lengths.{tables-known}
use Rattle.calibrator.proofs.Ways.{pair-known}
use Rattle.calibrator.proofs.inner.observe.Goals as goal

pub next_quote-requires : goal.next_quote-requires
next_quote-requires c =
    let a = c.args in
    let v = tables-known a.config _ _ _ (sym c.check_table_lengths.ensures ∙ c.in_ok-check_table_lengths.was) in
    let p = pair-known a.config _ a.quote (sym c.judge_pair.ensures ∙ c.in_ok-judge_pair.was) in
    (v.0, p.0, p.1, p.2, v.1)
