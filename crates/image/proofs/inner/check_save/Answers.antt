-- `image::inner::check_save` meets its contract, refusals in the order of document 01: the configuration and the tables' lengths (1, 7), the output's length
-- (7), the last quote (8), the counts (6, 9 to 11). Each way out rewrites the answers and tests before it. Past the first test the configuration is valid and
-- the tables have its lengths (`tables-known`), which is what the callees ask.
use mathlib.Core.Path.{sym, ◌∙◌}
use Rattle.tally.specs.Lent.{tables_in}
use Rattle.calibrator.proofs.Lengths.{tables-known}
use Rattle.count_check.proofs.Answers.{has-tables}
use Rattle.image.proofs.inner.check_save.Goals as goal

pub check_tables-requires : goal.check_tables-requires
check_tables-requires c =
    let k = tables-known c.args.config _ _ _ (sym c.check_table_lengths.ensures ∙ c.in_ok-check_table_lengths.was) in
    (k.0, has-tables c.args.config (tables_in c.args.tables) k.0 k.1)
