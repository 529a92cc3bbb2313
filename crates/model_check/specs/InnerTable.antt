-- For inner functions alone: a model table whose configuration and length are judged. Apart from Check.antt, which the struct needs.
use Rattle.std.specs.Prelude.{◌≡◌, List, ℕ, Result, Ok, Err, MatchResult}
use Rattle.refusals.specs.declared.Refusal.{Refusal}
use Rattle.config.specs.declared.MicroPriceConfig.{MicroPriceConfig}
use Rattle.model_check.specs.Check.{check_table}
use Rattle.model_check.specs.declared.inner.ModelTable.{ModelTable}

-- refusal 1 or 7, or neither and a table of this configuration and these words
abbrev pub TableJudged : MicroPriceConfig → List ℕ → Result ModelTable Refusal → Type 0
TableJudged c model r =
    MatchResult r (λ t. (check_table c model ≡ Ok tt) × (t.config ≡ c) × (t.rows.now ≡ model)) (λ e. check_table c model ≡ Err e)
