-- `model_check::inner::ModelTable::of` meets its contract: the configuration is judged, then the length. No loop. `state_count` asks a valid configuration,
-- which the table holds too (`config-known`).
use mathlib.Core.Path.{sym, ◌∙◌}
use Rattle.config.proofs.Known.{config-known}
use Rattle.model_check.proofs.inner.ModelTable.of.Goals as goal

pub state_count-requires : goal.state_count-requires
state_count-requires c = config-known c.args.config (sym c.validate.ensures ∙ c.in_ok-validate.was)

pub invariant_of-result : goal.invariant_of-result
invariant_of-result c =
    record {
      valid = config-known c.args.config (sym c.validate.ensures ∙ c.in_ok-validate.was);
      whole = rw (← c.state_count.ensures) c.if-rows-state_count.false;
    }
