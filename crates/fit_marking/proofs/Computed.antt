-- Marks computed: the three marks that a state can get, of four states with least observations 2. Document 01, "The fit".
use Prim.Native.Nat.{ℕ}
use mathlib.Core.Path.{◌≡◌, refl}
use mathlib.Core.List.{List, [], ◌∷◌}
use native.Mathlib.Omega.{arith}
use Rattle.basics.specs.Lists.{tab}
use Rattle.model.specs.declared.StateStatus.TheVariants.{Calibrated, Rare, NoPriceMove}
use Rattle.fit_marking.specs.Below.{sum_to, some_to}
use Rattle.fit_marking.specs.Marks.{Cells, cells_of, observations, here, via, Says, reaches_in, mark_of}

abbrev stay : List ℕ
stay =
    0 ∷ 2 ∷ 0 ∷ 0 ∷
    0 ∷ 0 ∷ 0 ∷ 0 ∷
    0 ∷ 0 ∷ 0 ∷ 2 ∷
    0 ∷ 0 ∷ 0 ∷ 0 ∷ []

abbrev moved : List ℕ
moved =
    0 ∷ 0 ∷ 0 ∷ 0 ∷
    2 ∷ 0 ∷ 0 ∷ 0 ∷
    0 ∷ 0 ∷ 0 ∷ 0 ∷
    0 ∷ 1 ∷ 0 ∷ 0 ∷ []

abbrev four : Cells
four = cells_of 4 2 stay moved

-- state 1 has a moved cell, and a stay cell leads from 0 to 1; from state 2 one leads to 3 alone, which is Rare
pub marks-computed : tab 4 (mark_of four) ≡ Calibrated ∷ Calibrated ∷ NoPriceMove ∷ Rare ∷ []
unfolding mark_of reaches_in observations sum_to some_to
marks-computed = refl

-- what its mark says of state 0 is so
pub calibrated-by-path : Says four 0 Calibrated
unfolding observations sum_to
calibrated-by-path = (omega arith, via {i = 0} 1 (omega arith) (omega arith) (omega arith) (here {i = 1} 0 (omega arith) (omega arith) (omega arith)))
