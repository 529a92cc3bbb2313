-- Each refusal is found by its number, and a number that no refusal has finds none. No refusal's number is 0.
use mathlib.Core.Path.{◌≡◌, refl, sym, ◌∙◌}
use mathlib.Core.Bool.{false, true≢false}
use mathlib.Core.List.{[], ◌∷◌, map}
use lib.Dec.{eqb}
use borrow.Author.Tests.{eq-eqb}
use Rattle.refusals.specs.Refusals.{number_of, refusals, refusal, check_number, row_or, Check}
use Rattle.std.specs.Prelude.{Ok, Err}
use Rattle.refusals.specs.declared.Refusal.{Refusal}
use Rattle.refusals.proofs.Cases.{each-case}

-- their numbers, in the order of the list
pub refusals-numbered : map number_of refusals ≡ 1 ∷ 2 ∷ 3 ∷ 4 ∷ 5 ∷ 6 ∷ 7 ∷ 8 ∷ 9 ∷ 10 ∷ 11 ∷ 12 ∷ 13 ∷ 14 ∷ 15 ∷ 16 ∷ 17 ∷ 18 ∷ 19 ∷ 26 ∷ []
refusals-numbered = refl

-- of 13 the one at row 0
pub found-by-number : (r : Refusal) → row_or r 0 ≡ 0 → refusal (number_of r) ≡ Err r
found-by-number r = (each-case r).found

pub none_found : map refusal (0 ∷ 20 ∷ 100 ∷ []) ≡ Ok tt ∷ (Ok tt) ∷ (Ok tt) ∷ []
none_found = refl

pub number-not-zero : (r : Refusal) → eqb (number_of r) 0 ≡ false
number-not-zero r = (each-case r).not-zero

-- where the number is 0 nothing is refused
pub zero-fine : (k : Check) → check_number k ≡ 0 → k ≡ Ok tt
zero-fine (Ok _) e = refl
zero-fine (Err r) e = absurd (true≢false (sym (eq-eqb (number_of r) 0 e) ∙ number-not-zero r))
