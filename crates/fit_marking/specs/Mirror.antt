-- Cells that equal their mirrors' (document 01, "The fit": 10), for any mirror.
use Rattle.std.specs.Prelude.{ℕ, ◌<◌, ◌≡◌}
use Rattle.fit_marking.specs.Marks.{Cells}

pub record CellsMirror (C : Cells) (mirror : ℕ → ℕ) : Type 0 where
  pub mirror-below : (i : ℕ) → i < C.states → mirror i < C.states
  pub mirror-twice : (i : ℕ) → i < C.states → mirror (mirror i) ≡ i
  pub stay-mirrored : (i j : ℕ) → i < C.states → j < C.states → C.stay (mirror i) (mirror j) ≡ C.stay i j
  pub moved-mirrored : (i j : ℕ) → i < C.states → j < C.states → C.moved (mirror i) (mirror j) ≡ C.moved i j
