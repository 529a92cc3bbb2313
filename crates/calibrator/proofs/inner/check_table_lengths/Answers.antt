-- `calibrator::inner::check_table_lengths` meets its contract: 1 for a configuration that is not valid, else 7 for tables of wrong lengths, else nothing.
-- `state_count` and `wrong_lengths` may be called since the configuration is valid there, with at most 256 states (`valid-known`). No loop.
use mathlib.Core.Path.{sym, ◌∙◌}
use Rattle.config.proofs.Known.{config-known}
use Rattle.calibrator.proofs.inner.check_table_lengths.Goals as goal

pub state_count-requires : goal.state_count-requires
state_count-requires c = config-known c.args.config (sym c.validate.ensures ∙ c.in_ok-validate.was)
