-- `fit::inner::check_fit` meets its contract: the refusals in the order of `fit_refusal_with`: 1 and 26, then 7 of `check_lengths`, whose 1 is not reached,
-- then 6, 9, 10 and 11. No loop. Where `check_lengths` is fine, the configuration is valid and the tables have their lengths (`tables-known`), as
-- `check_tables` asks.
use mathlib.Core.Path.{sym, ◌∙◌}
use Rattle.tally.specs.Lent.{tables_in}
use Rattle.refusals.proofs.Refusals.{first_fine}
use Rattle.calibrator.proofs.Lengths.{tables-known}
use Rattle.count_check.proofs.Answers.{has-tables}
use Rattle.fit.proofs.inner.check_fit.Goals as goal

pub check_tables-requires : goal.check_tables-requires
check_tables-requires c =
    let f = first_fine _ _ (sym c.check_lengths.ensures ∙ c.in_ok-check_lengths.was) in
    let k = tables-known c.args.config _ _ _ f.0 in
    (k.0, has-tables c.args.config (tables_in c.args.tables) k.0 k.1)
