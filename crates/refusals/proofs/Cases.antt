-- What holds of each refusal, case by case.
use Prim.Native.Nat.{ℕ}
use mathlib.Core.Path.{◌≡◌, refl, sym, ap}
use mathlib.Core.Bool.{false}
use mathlib.Core.List.{List, [], ◌∷◌}
use lib.Dec.{eqb}
use types.Run.{OneOf, miss}
use denote.Enum.Declared.{tag_of}
use Rattle.refusals.specs.contracts.Refusal.{the_type}
use Rattle.refusals.specs.Refusals.{number_of, refusal, row_or}
use Rattle.std.specs.Prelude.{Err}
use Rattle.refusals.specs.declared.Refusal.{Refusal}
use Rattle.refusals.specs.declared.Refusal.TheVariants.{Configuration, OverDomain, BadQuote, OffTick, EarlierTime, CountLimit, SliceLength, LastQuoteBroken, TotalsUnmirrored, CellsUnmirrored, CellsNotTwicePairs, ImageLayout, ModelRow, RecordingUnsorted, WindowBackward, NoCalibratedState, SingularTransitions, NotConverged, Unrepresentable, RoundsOutOfRange}

-- the code's tags of the refusals, which count from 0, but for that of 13
abbrev others : List ℕ
others = 0 ∷ 1 ∷ 2 ∷ 3 ∷ 4 ∷ 5 ∷ 6 ∷ 7 ∷ 8 ∷ 9 ∷ 10 ∷ 11 ∷ 13 ∷ 14 ∷ 15 ∷ 16 ∷ 17 ∷ 18 ∷ 19 ∷ []

pub record Case (r : Refusal) : Type 0 where
  -- it is found by its number; of 13 the one at row 0 is
  pub found : row_or r 0 ≡ 0 → refusal (number_of r) ≡ Err r
  pub not-zero : eqb (number_of r) 0 ≡ false
  -- if it is not 13 it names no row
  pub kept : (row : ℕ) → OneOf others (tag_of the_type r) → row_or r row ≡ row

pub each-case : (r : Refusal) → Case r
each-case Configuration = record { found = λ e. refl; not-zero = refl; kept = λ row h. refl }
each-case OverDomain = record { found = λ e. refl; not-zero = refl; kept = λ row h. refl }
each-case BadQuote = record { found = λ e. refl; not-zero = refl; kept = λ row h. refl }
each-case OffTick = record { found = λ e. refl; not-zero = refl; kept = λ row h. refl }
each-case EarlierTime = record { found = λ e. refl; not-zero = refl; kept = λ row h. refl }
each-case CountLimit = record { found = λ e. refl; not-zero = refl; kept = λ row h. refl }
each-case SliceLength = record { found = λ e. refl; not-zero = refl; kept = λ row h. refl }
each-case LastQuoteBroken = record { found = λ e. refl; not-zero = refl; kept = λ row h. refl }
each-case TotalsUnmirrored = record { found = λ e. refl; not-zero = refl; kept = λ row h. refl }
each-case CellsUnmirrored = record { found = λ e. refl; not-zero = refl; kept = λ row h. refl }
each-case CellsNotTwicePairs = record { found = λ e. refl; not-zero = refl; kept = λ row h. refl }
each-case ImageLayout = record { found = λ e. refl; not-zero = refl; kept = λ row h. refl }
each-case (ModelRow i) = record { found = λ e. ap (λ (k : ℕ). Err (ModelRow k)) (sym e); not-zero = refl; kept = λ row h. absurd (miss others 12 tt h) }
each-case RecordingUnsorted = record { found = λ e. refl; not-zero = refl; kept = λ row h. refl }
each-case WindowBackward = record { found = λ e. refl; not-zero = refl; kept = λ row h. refl }
each-case NoCalibratedState = record { found = λ e. refl; not-zero = refl; kept = λ row h. refl }
each-case SingularTransitions = record { found = λ e. refl; not-zero = refl; kept = λ row h. refl }
each-case NotConverged = record { found = λ e. refl; not-zero = refl; kept = λ row h. refl }
each-case Unrepresentable = record { found = λ e. refl; not-zero = refl; kept = λ row h. refl }
each-case RoundsOutOfRange = record { found = λ e. refl; not-zero = refl; kept = λ row h. refl }
