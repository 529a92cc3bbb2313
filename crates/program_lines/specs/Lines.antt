-- The lines that the evening program prints: document 01, "Marked and run".
use Rattle.std.specs.Prelude.{ℕ, zero, suc, ◌+◌, ◌≤◌, List, [], ◌∷◌, ◌++◌, Ok, Err}
use Rattle.refusals.specs.Refusals.{number_of, Check}
use Rattle.model.specs.Rows.{row_word}
use Rattle.program_text.specs.Text.{decimal, space, newline}
use Rattle.program_text.specs.Written.{hex16, Put}

-- ---- words, as bytes

-- "pairs ", "spread ", "gap ", "largest ", "invalid "
abbrev pub pairs_word : List ℕ
pairs_word = 112 ∷ 97 ∷ 105 ∷ 114 ∷ 115 ∷ 32 ∷ []

abbrev pub spread_word : List ℕ
spread_word = 115 ∷ 112 ∷ 114 ∷ 101 ∷ 97 ∷ 100 ∷ 32 ∷ []

abbrev pub gap_word : List ℕ
gap_word = 103 ∷ 97 ∷ 112 ∷ 32 ∷ []

abbrev pub largest_word : List ℕ
largest_word = 108 ∷ 97 ∷ 114 ∷ 103 ∷ 101 ∷ 115 ∷ 116 ∷ 32 ∷ []

abbrev pub invalid_word : List ℕ
invalid_word = 105 ∷ 110 ∷ 118 ∷ 97 ∷ 108 ∷ 105 ∷ 100 ∷ 32 ∷ []

-- "fit "
abbrev pub fit_word : List ℕ
fit_word = 102 ∷ 105 ∷ 116 ∷ 32 ∷ []

-- ---- lines

-- a word and a number
abbrev pub named : List ℕ → ℕ → List ℕ
named word n = word ++ decimal n ++ newline ∷ []

-- a number, or a float's bits, and a space
abbrev pub spaced : ℕ → List ℕ
spaced n = decimal n ++ space ∷ []

abbrev pub bits : ℕ → List ℕ
bits w = hex16 w ++ space ∷ []

-- five counters, the largest in half ticks
abbrev pub counter_lines : ℕ → ℕ → ℕ → ℕ → ℕ → List ℕ
counter_lines pairs spread gap largest invalid =
    named pairs_word pairs
    ++ named spread_word spread
    ++ named gap_word gap
    ++ named largest_word largest
    ++ named invalid_word invalid

-- state, bucket, spread, observations
abbrev pub row_numbers : List ℕ → ℕ → List ℕ
row_numbers model i = spaced i ++ spaced (row_word model i 0) ++ spaced (row_word model i 1) ++ spaced (row_word model i 2)

-- three floats' bits: first adjustment, adjustment, share
abbrev pub row_floats : List ℕ → ℕ → List ℕ
row_floats model i = bits (row_word model i 3) ++ bits (row_word model i 4) ++ bits (row_word model i 5)

-- these and the status
abbrev pub row_line : List ℕ → ℕ → List ℕ
row_line model i = row_numbers model i ++ row_floats model i ++ named [] (row_word model i 6)

-- states 0 to n − 1
abbrev pub row_lines : List ℕ → ℕ → List ℕ
row_lines model zero = []
row_lines model (suc i) = row_lines model i ++ row_line model i

-- the rows; a failed fit puts its number there
abbrev pub fit_lines : Check → List ℕ → ℕ → List ℕ
fit_lines (Ok _) model n = row_lines model n
fit_lines (Err r) model n = named fit_word (number_of r)

-- ---- writing them

-- bytes stored from a place on, at most so many
pub record PutIn (most : ℕ) (before : List ℕ) (at : ℕ) (bytes : List ℕ) (next : ℕ) (left : List ℕ) : Type 0 where
  pub put : Put before at bytes next left
  pub within : next ≤ at + most
