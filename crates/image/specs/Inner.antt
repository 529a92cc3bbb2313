-- For the contracts and proofs of inner functions alone: what reading the tables of an image asks of the lengths.
use Rattle.std.specs.Prelude.{ℕ, ◌≤◌, ◌≡◌, List, length}
use Rattle.tally.specs.Entries.{Tables}
use Rattle.config.specs.Configuration.{states}
use Rattle.image_layout.specs.Layout.{cells, image_length, config_in}

-- what reading the tables of an image of the form asks of the lengths
pub record Readable (form : ℕ) (b : List ℕ) (t : Tables) : Type 0 where
  pub few : states (config_in form b) ≤ 256
  pub stay-cells : length t.stay ≡ cells (config_in form b)
  pub moved-cells : length t.moved ≡ cells (config_in form b)
  pub totals-cells : length t.totals ≡ states (config_in form b)
  pub whole : length b ≡ image_length form (config_in form b)
