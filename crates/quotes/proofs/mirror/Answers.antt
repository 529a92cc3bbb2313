-- `quotes::mirror` meets its contract: no state for an invalid configuration or a number that is not below the count of states, as the definition has them;
-- else `mirror_of`. A valid configuration (`valid-known`) has from 3 to 256 buckets and at most 256 states, which is what `mirror_of` asks. No loop.
use mathlib.Core.Path.{sym, ◌∙◌}
use Rattle.config.proofs.Known.{valid-known}
use Rattle.quotes.proofs.mirror.Goals as goal

pub state_count-requires : goal.state_count-requires
state_count-requires c = valid-known c.args.config (sym c.is_valid.ensures ∙ c.if-not-is_valid.false)
