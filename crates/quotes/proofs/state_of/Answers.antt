-- `quotes::state_of` meets its contract: the configuration's refusal comes first, then the quote's, then the place, as the definition has them. What the calls
-- ask is what the passed tests say: a valid configuration (`valid-known`), an accepted quote (`fine-known`). No loop.
use Rattle.config.proofs.Known.{config-known}
use Rattle.quotes.proofs.Known.{fine-known}
use mathlib.Core.Path.{sym, ◌∙◌}
use Rattle.quotes.proofs.state_of.Goals as goal

pub place_of-requires : goal.place_of-requires
place_of-requires c =
    let a = c.args in (
      config-known a.config (sym c.validate.ensures ∙ c.in_ok-validate.was),
      fine-known a.config a.quote (sym c.check_quote.ensures ∙ c.in_ok-check_quote.was),
    )
