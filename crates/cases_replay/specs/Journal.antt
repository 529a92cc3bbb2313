-- The list of calls of this program: six words each, as specs/Replay.antt of `history_replay` has it.
use Rattle.std.specs.Prelude.{List, [], ◌∷◌, ◌++◌, ℕ, replicate, take, drop}
use Rattle.config.specs.Configuration.{new_config, with_min_state_observations, with_max_quote_gap_ms}
use Rattle.config.specs.declared.MicroPriceConfig.{MicroPriceConfig}
use Rattle.calibrator.specs.Observe.{fresh}
use Rattle.image_layout.specs.Layout.{newest, image}
use Rattle.history_replay.specs.Replay.{Site, replayed}

-- three states; an image has 328 bytes
abbrev pub setup : MicroPriceConfig
setup = with_max_quote_gap_ms (with_min_state_observations (new_config 1 3 1) 1) 1000

abbrev pub journal : List ℕ
journal =
    0 ∷ 1000 ∷ 100 ∷ 101 ∷ 1 ∷ 1 ∷
    0 ∷ 1500 ∷ 101 ∷ 102 ∷ 1 ∷ 3 ∷
    1 ∷ 0 ∷ 328 ∷ 0 ∷ 0 ∷ 0 ∷
    0 ∷ 1600 ∷ 101 ∷ 102 ∷ 3 ∷ 1 ∷
    0 ∷ 1400 ∷ 101 ∷ 102 ∷ 3 ∷ 1 ∷
    0 ∷ 5000 ∷ 101 ∷ 102 ∷ 1 ∷ 1 ∷
    0 ∷ 5100 ∷ 101 ∷ 103 ∷ 1 ∷ 1 ∷
    0 ∷ 5200 ∷ 0 ∷ 1 ∷ 1 ∷ 1 ∷
    1 ∷ 328 ∷ 327 ∷ 0 ∷ 0 ∷ 0 ∷
    1 ∷ 328 ∷ 328 ∷ 0 ∷ 0 ∷ 0 ∷
    2 ∷ 1 ∷ 328 ∷ 0 ∷ 0 ∷ 0 ∷
    2 ∷ 0 ∷ 328 ∷ 0 ∷ 0 ∷ 0 ∷
    0 ∷ 1700 ∷ 100 ∷ 101 ∷ 1 ∷ 3 ∷
    2 ∷ 0 ∷ 100 ∷ 0 ∷ 0 ∷ 0 ∷
    0 ∷ 1700 ∷ 100 ∷ 101 ∷ 1 ∷ 1 ∷
    2 ∷ 656 ∷ 328 ∷ 0 ∷ 0 ∷ 0 ∷
    1 ∷ 328 ∷ 328 ∷ 0 ∷ 0 ∷ 0 ∷
    []

-- another configuration
abbrev pub other_setup : MicroPriceConfig
other_setup = with_max_quote_gap_ms setup 2000

-- a new calibrator, and room for two images before one of another configuration
abbrev pub start : Site
start = record { memory = fresh setup; room = replicate {A = ℕ} 656 0 ++ image newest other_setup (fresh other_setup) }

-- the list in two parts: three calls, with the first save, and the others, on what the first part leaves
abbrev pub first_part : List ℕ
first_part = take 18 journal

abbrev pub later_part : List ℕ
later_part = drop 18 journal

abbrev pub between : Site
between = (replayed setup start first_part (replicate {A = ℕ} 3 0)).after
